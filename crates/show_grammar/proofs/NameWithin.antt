-- Single tokens of the grammar as they are shown: names, numbers, marks and words.
use Rattle.std.proofs.Common.{◌≡◌, ℕ, suc, ◌+◌, ◌<◌, ◌≤◌, Bool, true, false, List, [], ◌∷◌, ◌++◌, length, Option, Some, None, refl, sym, ap, subst, ◌∙◌, arith, append-nil, append_assoc}
use Rattle.std.specs.Prelude.{◌==◌, ◌||◌, if◌then◌else◌, bytes_eq, flat_map, map}
use Rattle.std.specs.List.{list_any, AllByRecursion}
use Rattle.std.proofs.lemmas.Bool.{eq-eqb}
use Rattle.std.proofs.lemmas.Slice.Eq.{bytes_eq-Decides}
use Rattle.az_text.specs.Lumps.{Lump, tokens_at}
use Rattle.az_text.specs.declared.mark.MarkKind.{MarkKind}
use Rattle.az_text.specs.declared.mark.MarkKind.TheVariants.{Comma, OpenBracket, CloseBracket}
use Rattle.az_text.specs.declared.token.Token.{Token}
use Rattle.az_text.specs.declared.token.TokenKind.TheVariants.{Word, Number, Mark}
use Rattle.alphabets_show.specs.Pieces.{mark, word, number, comma, joined, names}
use Rattle.grammar_rules.specs.Rules as rules
use Rattle.grammar_rules.specs.Rules.{Rule, many, left, list_of, put_last, single, sequence, mapped_to, grouped, TakesMany, TakesSequence}
use Rattle.grammar_rules.specs.Rules.TakesMany.{no_more, one_more}
use Rattle.grammar_rules.specs.Rules.TakesSequence.{both}
use Rattle.grammar_rules.specs.Rules.TakesMapped.{mapped}
use Rattle.grammar_rules.specs.Tokens.{mark_class, name_class, word_class, mark_of, number_of, name_of, keyword_of}
use Rattle.grammar_rules.specs.Sides as sides
use Rattle.grammar_rules.proofs.Within.{Within, heavier, one_token, none_of, in_sequence, first_choice, second_choice, none_of_many, one_of_many, in_list, in_left}
use Rattle.program_grammar.specs.Grammar as grammar
use Rattle.program_grammar.specs.Words as words
use Rattle.program_grammar.specs.Words.{reserved}
use Rattle.program_grammar.specs.Written.{IsName}

same_is : (n : ℕ) → (n == n) ≡ true
same_is n = eq-eqb n n refl

same_bytes : (xs : List ℕ) → bytes_eq xs xs ≡ true
same_bytes xs = (bytes_eq-Decides xs xs).1 refl

unlisted : (all : List (List ℕ)) (n : ℕ) (x : List ℕ) → list_any (bytes_eq x) all ≡ false → word_class all n x ≡ name_class
unlisted [] n x h = refl
unlisted (w ∷ all) n x h = by (bytes_eq x w) refl h (λ g. unlisted all (suc n) x g)
  where
    by : (b : Bool) → bytes_eq x w ≡ b → (b || list_any (bytes_eq x) all) ≡ false → (list_any (bytes_eq x) all ≡ false → word_class all (suc n) x ≡ name_class)
        → (if bytes_eq x w then n else word_class all (suc n) x) ≡ name_class
    by true same h rest = absurd (cc)
    by false same h rest = ap (λ b. if b then n else word_class all (suc n) x) same ∙ rest h

pub name_within : (weight : ℕ) (x : List ℕ) → IsName x → Within (words.name weight) (word x ∷ []) weight x
name_within weight x is =
    one_token (name_of reserved) weight (Word x) x (λ at. ap (λ (c : ℕ). if c == name_class then Some x else None) (unlisted reserved 26 x is.1))

pub number_within : (weight n : ℕ) → Within (words.number weight) (number n ∷ []) weight n
number_within weight n = one_token number_of weight (Number n) n (λ at. refl)

pub mark_within : (kind : MarkKind) (weight : ℕ) → Within (words.mark kind weight) (mark kind ∷ []) weight tt
mark_within kind weight = one_token (mark_of kind) weight (Mark kind) tt (λ at. ap (λ b. if b then Some tt else None) (same_is (mark_class kind)))

pub keyword_within : (x : List ℕ) (weight : ℕ) → Within (words.keyword x weight) (word x ∷ []) weight tt
keyword_within x weight = one_token (keyword_of x) weight (Word x) tt (λ at. ap (λ b. if b then Some tt else None) (same_bytes x))

-- other lumps that are the same
pub same_lumps : {A : Type 0} {rule : Rule Token A} {xs ys : List Lump} {bound : ℕ} {a : A} → xs ≡ ys → Within rule xs bound a → Within rule ys bound a
same_lumps {rule = rule} {bound = bound} {a = a} same w = subst (λ (lumps : List Lump). Within rule lumps bound a) same w

-- with a bound that is known behind it
pub at_most : {A : Type 0} {rule : Rule Token A} {lumps : List Lump} {bound : ℕ} {a : A} (more : ℕ) → Within rule lumps bound a → bound ≤ more → Within rule lumps more a
at_most more w allows = heavier more allows w

-- a repetition of one, and one that is put to a first part alone
pub only_one : {A : Type 0} {rule : Rule Token A} {xs : List Lump} {bound : ℕ} {a : A} → Within rule xs bound a → Within (many rule) xs bound (a ∷ [])
only_one {xs = xs} {bound = bound} w = at_most bound (same_lumps (append-nil xs) (one_of_many w none_of_many)) (omega arith)

pub alone : {A B : Type 0} (step : A → B → A) {p : Rule Token A} {q : Rule Token B} {xs : List Lump} {bound : ℕ} {a : A} → Within p xs bound a → Within (left step p q) xs bound a
alone step {xs = xs} {bound = bound} w = at_most bound (same_lumps (append-nil xs) (in_left step w none_of_many)) (omega arith)

-- a list of the members of a repetition
in_order : {A : Type 0} (xs ys : List A) → grouped put_last xs ys ≡ xs ++ ys
in_order xs [] = sym (append-nil xs)
in_order xs (y ∷ ys) = in_order (xs ++ (y ∷ [])) ys ∙ append_assoc xs (y ∷ []) ys

takes_list : {T A : Type 0} (rule : Rule T A) (ts : List T) (w : ℕ) (a : A) (rest : List A) → TakesMany rule ts w (a ∷ rest) → (list_of rule rule).takes ts w (a ∷ rest)
takes_list rule ts w a rest (one_more {us = us} {vs = vs} {v = v} {w = u} first others) =
    subst (λ (items : List _). (list_of rule rule).takes (us ++ vs) (v + u) items) (in_order (single a) rest) (both (mapped first) others)

pub list_from_many : {A : Type 0} {rule : Rule Token A} {xs : List Lump} {bound : ℕ} (a : A) (rest : List A) → Within (many rule) xs bound (a ∷ rest) → Within (list_of rule rule) xs bound (a ∷ rest)
list_from_many {rule = rule} {xs = xs} a rest w = record { weight = w.weight; light = w.light; taken = λ at. takes_list rule (tokens_at at xs) w.weight a rest (w.taken at) }

-- items of one kind, each behind the same
pub many_within : {A B : Type 0} (Ok : A → Type 0) (shown : A → List Lump) (value : A → B) {rule : Rule Token B} → ((a : A) → Ok a → Within rule (shown a) 0 (value a))
    → (items : List A) → AllByRecursion Ok items → Within (many rule) (flat_map shown items) 0 (map value items)
many_within Ok shown value each [] ok = none_of_many
many_within Ok shown value each (a ∷ items) ok = one_of_many (each a ok.0) (many_within Ok shown value each items ok.1)

pub joined_within : {A B : Type 0} (Ok : A → Type 0) (shown : A → List Lump) (value : A → B) {p q : Rule Token B} (before : List Lump → List Lump)
    → ((a : A) → Ok a → Within p (shown a) 0 (value a)) → ((a : A) → Ok a → Within q (before (shown a)) 0 (value a))
    → (first : A) (rest : List A) → AllByRecursion Ok (first ∷ rest) → Within (list_of p q) (joined shown before (first ∷ rest)) 0 (map value (first ∷ rest))
joined_within Ok shown value before each next first rest ok = in_list (each first ok.0) (many_within Ok (λ a. before (shown a)) value next rest ok.1)
