-- What was written by a rule, lump by lump, is taken by it wherever it stands: for each way of building a
-- rule, with a bound on the weight.
use Rattle.std.proofs.Common.{◌≡◌, ℕ, suc, ◌+◌, ◌-◌, ◌≤◌, List, [], ◌∷◌, ◌++◌, Option, Some, None, Ok, inl, inr, length, refl, sym, ap, subst, ◌∙◌, append-nil, append_assoc, arith}
use Rattle.std.specs.Prelude.{Result}
use Rattle.az_text.specs.Lumps.{Lump, tokens_at, end_of, bytes_of, AreApart}
use Rattle.az_text.specs.Lumps.Lump.{ink, blank}
use Rattle.az_text.specs.Pieces.{spelling}
use Rattle.az_text.specs.Reading.{token_at}
use Rattle.az_text.specs.declared.token.Token.{Token}
use Rattle.az_text.specs.declared.token.TokenKind.{TokenKind}
use Rattle.az_text.proofs.LumpLaws.{apart_read, tokens_joined}
use Rattle.grammar_rules.specs.Exactness.{Shape, Exact}
use Rattle.grammar_rules.specs.Readers.{Reader}
use Rattle.grammar_rules.specs.Rules.{Rule, token, give, mapped_to, followed, sequence, choice, optional, many, grouped, left, single, put_last, list_of, fresh, level, recursive, TakesMany}
use Rattle.grammar_rules.specs.Rules.TakesToken.{this}
use Rattle.grammar_rules.specs.Rules.TakesNothing.{nothing}
use Rattle.grammar_rules.specs.Rules.TakesMapped.{mapped}
use Rattle.grammar_rules.specs.Rules.TakesSequence.{both}
use Rattle.grammar_rules.specs.Rules.TakesMany.{no_more, one_more}
use Rattle.grammar_rules.specs.Rules.TakesFresh.{above}
use Rattle.grammar_rules.specs.TextReadings.{IsReadingOf}
use Rattle.grammar_rules.specs.Whole.{Verdict, verdict, IsVerdict, IsSentence}
use Rattle.grammar_rules.specs.Whole.Verdict.{parsed, misplaced, too_heavy}
use Rattle.grammar_rules.proofs.Whole.{verdict_exact}

-- the lumps are taken at each place, with this value and no more than so much weight
pub record Within {A : Type 0} (rule : Rule Token A) (lumps : List Lump) (bound : ℕ) (a : A) : Type 0 where
  pub weight : ℕ
  pub light : weight ≤ bound
  pub taken : (at : ℕ) → rule.takes (tokens_at at lumps) weight a

pub heavier : {A : Type 0} {rule : Rule Token A} {lumps : List Lump} {bound : ℕ} {a : A} (more : ℕ) → bound ≤ more → Within rule lumps bound a → Within rule lumps more a
heavier more allows w = record { weight = w.weight; light = (let light = w.light in omega arith); taken = w.taken }

-- a token
pub one_token : {A : Type 0} (value : Token → Option A) (weight : ℕ) (kind : TokenKind) (a : A) → ((at : ℕ) → value (token_at at kind (length (spelling kind))) ≡ Some a)
    → Within (token value weight) (ink kind ∷ []) weight a
one_token value weight kind a is = record { weight = weight; light = omega arith; taken = λ at. this (token_at at kind (length (spelling kind))) a (is at) }

-- a blank before, and behind
pub spaced : {A : Type 0} {rule : Rule Token A} {lumps : List Lump} {bound : ℕ} {a : A} (b : ℕ) → Within rule lumps bound a → Within rule (blank b ∷ lumps) bound a
spaced b w = record { weight = w.weight; light = w.light; taken = λ at. w.taken (suc at) }

pub spaced_behind : {A : Type 0} {rule : Rule Token A} {lumps : List Lump} {bound : ℕ} {a : A} (b : ℕ) → Within rule lumps bound a → Within rule (lumps ++ blank b ∷ []) bound a
spaced_behind {rule = rule} {lumps = lumps} {a = a} b w = record {
  weight = w.weight;
  light = w.light;
  taken = λ at. subst (λ (ts : List Token). rule.takes ts w.weight a) (sym (tokens_joined at lumps (blank b ∷ []) ∙ append-nil (tokens_at at lumps))) (w.taken at);
}

-- nothing
pub none_of : {A : Type 0} (a : A) → Within (give a) [] 0 a
none_of a = record { weight = 0; light = omega arith; taken = λ at. nothing }

-- another value
pub with_value : {A B : Type 0} (f : A → B) {rule : Rule Token A} {lumps : List Lump} {bound : ℕ} {a : A} → Within rule lumps bound a → Within (mapped_to f rule) lumps bound (f a)
with_value f w = record { weight = w.weight; light = w.light; taken = λ at. mapped (w.taken at) }

-- a part, and one that may depend on its value
pub then_part : {A B C : Type 0} (f : A → B → C) {p : Rule Token A} (q : A → Rule Token B) {xs ys : List Lump} {b c : ℕ} {a : A} {x : B}
    → Within p xs b a → Within (q a) ys c x → Within (followed f p q) (xs ++ ys) (b + c) (f a x)
then_part f {p = p} q {xs = xs} {ys = ys} {a = a} {x = x} first second = record {
  weight = first.weight + second.weight;
  light = (let one = first.light in let two = second.light in omega arith);
  taken = λ at.
      subst (λ (ts : List Token). (followed f p q).takes ts (first.weight + second.weight) (f a x)) (sym (tokens_joined at xs ys))
      (both (first.taken at) (second.taken (end_of at xs)));
}

pub in_sequence : {A B C : Type 0} (f : A → B → C) {p : Rule Token A} {q : Rule Token B} {xs ys : List Lump} {b c : ℕ} {a : A} {x : B}
    → Within p xs b a → Within q ys c x → Within (sequence f p q) (xs ++ ys) (b + c) (f a x)
in_sequence f {q = q} first second = then_part f (λ a. q) first second

-- a choice
pub first_choice : {A : Type 0} {p q : Rule Token A} {lumps : List Lump} {bound : ℕ} {a : A} → Within p lumps bound a → Within (choice p q) lumps bound a
first_choice w = record { weight = w.weight; light = w.light; taken = λ at. inl (w.taken at) }

pub second_choice : {A : Type 0} {p q : Rule Token A} {lumps : List Lump} {bound : ℕ} {a : A} → Within q lumps bound a → Within (choice p q) lumps bound a
second_choice w = record { weight = w.weight; light = w.light; taken = λ at. inr (w.taken at) }

pub in_option : {A : Type 0} {p : Rule Token A} {lumps : List Lump} {bound : ℕ} {a : A} → Within p lumps bound a → Within (optional p) lumps bound (Some a)
in_option w = first_choice (with_value Some w)

pub no_option : {A : Type 0} {p : Rule Token A} → Within (optional p) [] 0 None
no_option = second_choice (none_of None)

-- a repetition
pub none_of_many : {A : Type 0} {p : Rule Token A} → Within (many p) [] 0 []
none_of_many = record { weight = 0; light = omega arith; taken = λ at. no_more }

pub one_of_many : {A : Type 0} {p : Rule Token A} {xs ys : List Lump} {b c : ℕ} {a : A} {as_ : List A} → Within p xs b a → Within (many p) ys c as_ → Within (many p) (xs ++ ys) (b + c) (a ∷ as_)
one_of_many {p = p} {xs = xs} {ys = ys} {a = a} {as_ = as_} first rest = record {
  weight = first.weight + rest.weight;
  light = (let one = first.light in let two = rest.light in omega arith);
  taken = λ at.
      subst (λ (ts : List Token). TakesMany p ts (first.weight + rest.weight) (a ∷ as_)) (sym (tokens_joined at xs ys))
      (one_more (first.taken at) (rest.taken (end_of at xs)));
}

-- the lumps of each value, one after another, and the bound of all
abbrev pub lumps_of_all : {A : Type 0} → (A → List Lump) → List A → List Lump
lumps_of_all lumps [] = []
lumps_of_all lumps (a ∷ as_) = lumps a ++ lumps_of_all lumps as_

abbrev pub bound_of_all : {A : Type 0} → (A → ℕ) → List A → ℕ
bound_of_all bound [] = 0
bound_of_all bound (a ∷ as_) = bound a + bound_of_all bound as_

pub each_of : {A : Type 0} {p : Rule Token A} (lumps : A → List Lump) (bound : A → ℕ) → ((a : A) → Within p (lumps a) (bound a) a) → (as_ : List A)
    → Within (many p) (lumps_of_all lumps as_) (bound_of_all bound as_) as_
each_of lumps bound each [] = none_of_many
each_of lumps bound each (a ∷ as_) = one_of_many (each a) (each_of lumps bound each as_)

-- a part, and members that are grouped to it
pub in_left : {A B : Type 0} (step : A → B → A) {p : Rule Token A} {q : Rule Token B} {xs ys : List Lump} {b c : ℕ} {a : A} {bs : List B}
    → Within p xs b a → Within (many q) ys c bs → Within (left step p q) (xs ++ ys) (b + c) (grouped step a bs)
in_left step first rest = in_sequence (grouped step) first rest

pub in_order : {A : Type 0} (xs ys : List A) → grouped put_last xs ys ≡ xs ++ ys
in_order xs [] = sym (append-nil xs)
in_order xs (y ∷ ys) = in_order (xs ++ (y ∷ [])) ys ∙ append_assoc xs (y ∷ []) ys

pub in_list : {A : Type 0} {p q : Rule Token A} {xs ys : List Lump} {b c : ℕ} {a : A} {as_ : List A} → Within p xs b a → Within (many q) ys c as_ → Within (list_of p q) (xs ++ ys) (b + c) (a ∷ as_)
in_list {p = p} {q = q} {xs = xs} {ys = ys} {b = b} {c = c} {a = a} {as_ = as_} first rest =
    subst (λ (items : List _). Within (list_of p q) (xs ++ ys) (b + c) items) (in_order (single a) as_) (in_left put_last (with_value single first) rest)

-- a part with a limit of its own
pub in_fresh : {A : Type 0} (limit : ℕ) {p : Rule Token A} {lumps : List Lump} {bound : ℕ} {a : A} → Within p lumps bound a → Within (fresh limit p) lumps (bound - limit) a
in_fresh limit w = record { weight = w.weight - limit; light = (let light = w.light in omega arith); taken = λ at. above (w.taken at) }

-- a rule that speaks of itself
pub at_level : {A : Type 0} (body : Rule Token A → Rule Token A) (n : ℕ) {lumps : List Lump} {bound : ℕ} {a : A} → Within (level body n) lumps bound a → Within (recursive body) lumps bound a
at_level body n w = record { weight = w.weight; light = w.light; taken = λ at. (n, w.taken at) }

-- What a rule takes within the limit is a sentence, where each text has a verdict.
pub sentence_of : {T A : Type 0} (rule : Rule T A) (limit : ℕ) (ts : List T) (w : ℕ) (a : A) (found : Verdict A) → IsVerdict rule limit ts found → rule.takes ts w a → w ≤ limit → IsSentence rule limit ts a
sentence_of rule limit ts w a (parsed b) is takes light = subst (IsSentence rule limit ts) (sym (is.alone w a takes)) is
sentence_of rule limit ts w a (misplaced remaining) is takes light = absurd (is.3.no_sentence w a takes)
sentence_of rule limit ts w a too_heavy is takes light = let over = is.no_sentence w a takes in absurd (omega arith)

-- So what was written by a rule that is read exactly is read as the same value.
pub written_is_read : {A : Type 0} {class : Token → ℕ} {shape : Shape} {depth : ℕ} {rule : Rule Token A} {reader : Reader Token A} → Exact class shape depth rule rule reader
    → (limit : ℕ) (lumps : List Lump) (a : A) → suc limit ≤ depth → AreApart lumps [] → Within rule lumps limit a → IsReadingOf rule limit (bytes_of lumps) (Ok a)
written_is_read {rule = rule} {reader = reader} exact limit lumps a deep apart w =
    let ts = tokens_at 0 lumps in
    (ts, apart_read 0 lumps apart, sentence_of rule limit ts w.weight a (verdict (reader limit ts)) (verdict_exact exact limit ts (omega arith)) (w.taken 0) w.light)
