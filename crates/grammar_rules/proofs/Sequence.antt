-- The law of a sequence. The second reader may use the first one's value, as long as what it answers is
-- the value that the rule puts together.
use Rattle.std.proofs.Common.{◌≡◌, ℕ, ◌+◌, ◌-◌, ◌<◌, ◌≤◌, Bool, true, false, ◌&&◌, if◌then◌else◌, List, [], ◌∷◌, ◌++◌, inl, inr, arith, refl, sym, ◌∙◌, ap, subst, append_assoc, append-nil, add_assoc, Option, suc, nat_le}
use Rattle.std.proofs.lemmas.Bool.{leb-true}
use Rattle.grammar_rules.specs.Rules.{Rule, token, sequence, followed, TakesToken, mapped_to, TakesSequence, FrontOfSequence, TakesMapped}
use Rattle.grammar_rules.specs.Rules.TakesToken.{this}
use Rattle.grammar_rules.specs.Rules.TakesSequence.{both}
use Rattle.grammar_rules.specs.Rules.FrontOfSequence.{of_first, of_rest}
use Rattle.grammar_rules.specs.Rules.TakesMapped.{mapped}
use Rattle.grammar_rules.specs.Readers.{Answer, Reader, after, sees, read_then, read_token, read_sequence, read_followed, read_mapped}
use Rattle.grammar_rules.specs.Readers.Answer.{got, wrong, large}
use Rattle.grammar_rules.specs.Exactness.{Shape, HasShape, Exact, Says, LeavesAtMost, BeginsIn, IsLight, is_disjoint, IsWithin, token_shape, sequence_shape}
use Rattle.grammar_rules.proofs.LookAhead.{append-has_left, append-has_right, has_disjoint, disjoint_none, not_seen, not_seen_after}
use Rattle.grammar_rules.proofs.Leaves.{leaves_all, leaves_less, leaves_as, or_at_most}
use Rattle.grammar_rules.proofs.Mapped.{mapped_exact}
use Rattle.grammar_rules.proofs.Token.{token_exact}

-- how a sequence begins
begins_append : {T : Type 0} (class : T → ℕ) (first second : List ℕ) (e e' : Bool) (us vs : List T) → BeginsIn class first e us → BeginsIn class second e' vs → BeginsIn class (if e then first ++ second else first) (e && e') (us ++ vs)
begins_append class first second true e' [] [] p q = q
begins_append class first second true e' [] (v ∷ vs) p q = append-has_right first second (class v) q
begins_append class first second false e' [] vs p q = absurd (cc)
begins_append class first second true e' (u ∷ us) vs p q = append-has_left first second (class u) p
begins_append class first second false e' (u ∷ us) vs p q = p

begins_wider : {T : Type 0} (class : T → ℕ) (first second : List ℕ) (e : Bool) (us : List T) → BeginsIn class first true us → BeginsIn class (if e then first ++ second else first) true us
begins_wider class first second e [] p = refl
begins_wider class first second true (u ∷ us) p = append-has_left first second (class u) p
begins_wider class first second false (u ∷ us) p = p

begins_or_ends : {T : Type 0} (class : T → ℕ) (first : List ℕ) (e : Bool) (us : List T) → BeginsIn class first e us → BeginsIn class first true us
begins_or_ends class first e [] p = refl
begins_or_ends class first e (u ∷ us) p = p

light_append : {T : Type 0} (us vs : List T) (v w : ℕ) → IsLight us v → IsLight vs w → IsLight (us ++ vs) (v + w)
light_append [] [] v w p q = omega arith
light_append [] (x ∷ vs) v w p q = tt
light_append (u ∷ us) vs v w p q = tt

both_mapped : {T A B C : Type 0} (f : A → B → C) (p : Rule T A) (q : A → Rule T B) (us vs : List T) (v w : ℕ) (a : A) (c : C) → p.takes us v a → TakesMapped (f a) (q a) vs w c → TakesSequence f p q (us ++ vs) (v + w) c
both_mapped f p q us vs v w a c first (mapped second) = both first second

-- the shape of a sequence
sequence_begins : {T A B C : Type 0} (class : T → ℕ) (one two : Shape) (f : A → B → C) (p : Rule T A) (q : A → Rule T B) → HasShape class one p → ((a : A) → HasShape class two (mapped_to (f a) (q a)))
    → (us : List T) (w : ℕ) (c : C) → TakesSequence f p q us w c → BeginsIn class (sequence_shape one two).first (sequence_shape one two).empty us
sequence_begins class one two f p q first second us w c (both {us = xs} {vs} {v} {w = y} {a} {b} t u) =
    begins_append class one.first two.first one.empty two.empty xs vs (first.begins xs v a t) ((second a).begins vs y (f a b) (mapped u))

sequence_begins_front : {T A B C : Type 0} (class : T → ℕ) (one two : Shape) (f : A → B → C) (p : Rule T A) (q : A → Rule T B) → HasShape class one p → ((a : A) → HasShape class two (mapped_to (f a) (q a)))
    → (us : List T) (w : ℕ) → FrontOfSequence p q us w → BeginsIn class (sequence_shape one two).first true us
sequence_begins_front class one two f p q first second us w (of_first t) = begins_wider class one.first two.first one.empty us (first.begins_front us w t)
sequence_begins_front class one two f p q first second us w (of_rest {us = xs} {vs} {v} {w = y} {a} t u) =
    begins_or_ends class (sequence_shape one two).first (one.empty && true) (xs ++ vs)
    (begins_append class one.first two.first one.empty true xs vs (first.begins xs v a t) ((second a).begins_front vs y u))

sequence_light : {T A B C : Type 0} (class : T → ℕ) (one two : Shape) (f : A → B → C) (p : Rule T A) (q : A → Rule T B) → HasShape class one p → ((a : A) → HasShape class two (mapped_to (f a) (q a)))
    → (us : List T) (w : ℕ) → FrontOfSequence p q us w → IsLight us w
sequence_light class one two f p q first second us w (of_first t) = first.light us w t
sequence_light class one two f p q first second us w (of_rest {us = xs} {vs} {v} {w = y} {a} t u) = light_append xs vs v y (first.light xs v (first.whole_front xs v a t)) ((second a).light vs y u)

sequence_whole : {T A B C : Type 0} (class : T → ℕ) (two : Shape) (f : A → B → C) (p : Rule T A) (q : A → Rule T B) → ((a : A) → HasShape class two (mapped_to (f a) (q a)))
    → (us : List T) (w : ℕ) (c : C) → TakesSequence f p q us w c → FrontOfSequence p q us w
sequence_whole class two f p q second us w c (both {vs} {w = y} {a} {b} t u) = of_rest t ((second a).whole_front vs y (f a b) (mapped u))

pub sequence_shaped : {T A B C : Type 0} (class : T → ℕ) (one two : Shape) (f : A → B → C) (p : Rule T A) (q : A → Rule T B) → HasShape class one p → ((a : A) → HasShape class two (mapped_to (f a) (q a)))
    → HasShape class (sequence_shape one two) (followed f p q)
sequence_shaped class one two f p q first second = record {
  begins = sequence_begins class one two f p q first second;
  begins_front = sequence_begins_front class one two f p q first second;
  light = sequence_light class one two f p q first second;
  empty_front = of_first first.empty_front;
  whole_front = sequence_whole class two f p q second;
}

-- what is said of both parts together
pub rejoin : {T : Type 0} (us vs rest later ts : List T) → ts ≡ us ++ rest → rest ≡ vs ++ later → ts ≡ (us ++ vs) ++ later
rejoin us vs rest later ts split next = split ∙ ap (us ++◌) next ∙ sym (append_assoc us vs later)

says_second : {T A B C : Type 0} (f : A → B → C) (p : Rule T A) (q : A → Rule T B) (b : ℕ) (ts us rest : List T) (v remaining : ℕ) (a : A)
    → ts ≡ us ++ rest → b ≡ v + remaining → p.takes us v a → (answer : Answer T C) → Says (mapped_to (f a) (q a)) remaining rest answer → Says (followed f p q) b ts answer
says_second f p q b ts us rest v remaining a split paid takes (got c later left_over) says =
    (us ++ says.0, v + says.1, rejoin us says.0 rest later ts split says.2, (let next = says.3 in omega arith), both_mapped f p q us says.0 v says.1 a c takes says.4)
says_second f p q b ts us rest v remaining a split paid takes (wrong later) says =
    (us ++ says.0, says.1, v + says.2, rejoin us says.0 rest says.1 ts split says.3, (let next = says.4 in omega arith), of_rest takes says.5, says.6)
says_second f p q b ts us rest v remaining a split paid takes large says =
    (us ++ says.0, says.1, v + says.2, rejoin us says.0 rest says.1 ts split says.3, (let next = says.4 in omega arith), of_rest takes says.5)

says_both : {T A B C : Type 0} (f : A → B → C) (p : Rule T A) (q : A → Rule T B) (second : A → Reader T C) (b : ℕ) (ts : List T)
    → ((a : A) (budget : ℕ) (rest : List T) → Says (mapped_to (f a) (q a)) budget rest (second a budget rest))
    → (answer : Answer T A) → Says p b ts answer → Says (followed f p q) b ts (after answer second)
says_both f p q second b ts each (got a rest remaining) says = says_second f p q b ts says.0 rest says.1 remaining a says.2 says.3 says.4 (second a remaining rest) (each a remaining rest)
says_both f p q second b ts each (wrong remaining) says = (says.0, says.1, says.2, says.3, says.4, of_first says.5, says.6)
says_both f p q second b ts each large says = (says.0, says.1, says.2, says.3, says.4, of_first says.5)

-- what the second part leaves is less than what the first one leaves
leaves_after : {T A B C : Type 0} (f : A → B → C) (q : A → Rule T B) (second : A → Reader T C) (rest : List T)
    → ((a : A) (budget : ℕ) (ts : List T) → Says (mapped_to (f a) (q a)) budget ts (second a budget ts))
    → (answer : Answer T A) → LeavesAtMost rest answer → LeavesAtMost rest (after answer second)
leaves_after f q second rest each (got a some b) leaves = leaves_less some rest (second a b some) leaves (leaves_all (mapped_to (f a) (q a)) b some (second a b some) (each a b some))
leaves_after f q second rest each (wrong some) leaves = leaves
leaves_after f q second rest each large leaves = tt

-- A first part that was whole is read as such, where the next token can't go on.
first_read : {T A B C : Type 0} (f : A → B → C) (class : T → ℕ) (one : Shape) (depth : ℕ) (sure p : Rule T A) (first : Reader T A) (second : A → Reader T C)
    → Exact class one depth sure p first → (b : ℕ) (us tail : List T) (v : ℕ) (a : A) → v + b < depth → p.takes us v a → sees class one.more tail ≡ false
    → read_then first second (v + b) (us ++ tail) ≡ second a b tail
first_read f class one depth sure p first second exact b us tail v a in_depth takes unseen = rw (exact.gets b us tail v a in_depth takes unseen) refl

-- the heads under which a sequence is read
pub record Parts {T A B C : Type 0} (class : T → ℕ) (one two : Shape) (f : A → B → C) (guard depth : ℕ) (sure rule : Rule T A) (sure' rule' : A → Rule T B) (first : Reader T A) (second : A → Reader T C) : Type 0 where
  pub exact : Exact class one (guard + depth) sure rule first
  pub guarded : (us : List T) (w : ℕ) (a : A) → rule.takes us w a → guard ≤ w
  pub exact' : (a : A) → Exact class two depth (mapped_to (f a) (sure' a)) (mapped_to (f a) (rule' a)) (second a)
  pub apart : is_disjoint two.first one.more ≡ true

sequence_gets : {T A B C : Type 0} (class : T → ℕ) (one two : Shape) (f : A → B → C) (guard depth : ℕ) (sure p : Rule T A) (sure' q : A → Rule T B) (first : Reader T A) (second : A → Reader T C)
    → Parts class one two f guard depth sure p sure' q first second
    → (b : ℕ) (us rest : List T) (w : ℕ) (c : C) → w + b < guard + depth → TakesSequence f p q us w c → sees class (sequence_shape one two).more rest ≡ false
    → read_then first second (w + b) (us ++ rest) ≡ got c rest b
sequence_gets class one two f guard depth sure p sure' q first second parts b us rest w c in_depth (both {us = xs} {vs} {v} {w = y} {a} {b = x} t u) unseen =
    let heavy : guard ≤ v = parts.guarded xs v a t in
    let tail_unseen = not_seen class two.first one.more two.more two.empty vs rest ((parts.exact' a).shaped.begins vs y (f a x) (mapped u)) parts.apart unseen in
    rw (append_assoc xs vs rest, add_assoc v y b)
    (first_read f class one (guard + depth) sure p first second parts.exact (y + b) xs (vs ++ rest) v a (omega arith) t tail_unseen
    ∙ (parts.exact' a).gets b vs rest y (f a x) (omega arith) (mapped u) (not_seen_after class one.more two.more two.empty rest unseen))

rest_reaches : {T A B C : Type 0} (class : T → ℕ) (one two : Shape) (f : A → B → C) (guard depth : ℕ) (sure p : Rule T A) (sure' q : A → Rule T B) (first : Reader T A) (second : A → Reader T C)
    → Parts class one two f guard depth sure p sure' q first second
    → (b : ℕ) (us vs rest : List T) (v w : ℕ) (a : A) → b < guard + depth → p.takes us v a → (q a).front vs w → v + w ≤ b
    → LeavesAtMost rest (read_then first second b ((us ++ vs) ++ rest))
rest_reaches class one two f guard depth sure p sure' q first second parts b us [] rest v w a in_depth t u fits =
    rw append-nil (leaves_after f sure' second rest (λ x. (parts.exact' x).says) (first b (us ++ rest))
    (parts.exact.reaches b us rest v in_depth (parts.exact.shaped.whole_front us v a t) (omega arith)))
rest_reaches class one two f guard depth sure p sure' q first second parts b us (x ∷ vs) rest v w a in_depth t u fits =
    let heavy : guard ≤ v = parts.guarded us v a t in
    let all : b ≡ v + (b - v) = omega arith in
    let unseen = has_disjoint two.first one.more (class x) parts.apart ((parts.exact' a).shaped.begins_front (x ∷ vs) w u) in
    let come = first_read f class one (guard + depth) sure p first second parts.exact (b - v) us (x ∷ (vs ++ rest)) v a (omega arith) t unseen in
    rw append_assoc (subst (λ (n : ℕ). LeavesAtMost rest (read_then first second n (us ++ (x ∷ (vs ++ rest))))) (sym all)
    (leaves_as rest _ _ come ((parts.exact' a).reaches (b - v) (x ∷ vs) rest w (omega arith) u (omega arith))))

sequence_reaches : {T A B C : Type 0} (class : T → ℕ) (one two : Shape) (f : A → B → C) (guard depth : ℕ) (sure p : Rule T A) (sure' q : A → Rule T B) (first : Reader T A) (second : A → Reader T C)
    → Parts class one two f guard depth sure p sure' q first second
    → (b : ℕ) (us rest : List T) (w : ℕ) → b < guard + depth → FrontOfSequence p q us w → w ≤ b
    → LeavesAtMost rest (read_then first second b (us ++ rest))
sequence_reaches class one two f guard depth sure p sure' q first second parts b us rest w in_depth (of_first t) fits =
    leaves_after f sure' second rest (λ x. (parts.exact' x).says) (first b (us ++ rest)) (parts.exact.reaches b us rest w in_depth t fits)
sequence_reaches class one two f guard depth sure p sure' q first second parts b us rest w in_depth (of_rest {us = xs} {vs} {v} {w = y} {a} t u) fits =
    rest_reaches class one two f guard depth sure p sure' q first second parts b xs vs rest v y a in_depth t u fits

rest_exceeds : {T A B C : Type 0} (class : T → ℕ) (one two : Shape) (f : A → B → C) (guard depth : ℕ) (sure p : Rule T A) (sure' q : A → Rule T B) (first : Reader T A) (second : A → Reader T C)
    → Parts class one two f guard depth sure p sure' q first second
    → (b : ℕ) (us vs rest : List T) (v w : ℕ) (a : A) → b < guard + depth → p.takes us v a → (q a).front vs w → b < v + w → v ≤ b
    → read_then first second b ((us ++ vs) ++ rest) ≡ large
rest_exceeds class one two f guard depth sure p sure' q first second parts b us [] rest v w a in_depth t u over fits =
    let none : w ≡ 0 = (parts.exact' a).shaped.light [] w u in absurd (omega arith)
rest_exceeds class one two f guard depth sure p sure' q first second parts b us (x ∷ vs) rest v w a in_depth t u over fits =
    let heavy : guard ≤ v = parts.guarded us v a t in
    let all : b ≡ v + (b - v) = omega arith in
    let unseen = has_disjoint two.first one.more (class x) parts.apart ((parts.exact' a).shaped.begins_front (x ∷ vs) w u) in
    let come = first_read f class one (guard + depth) sure p first second parts.exact (b - v) us (x ∷ (vs ++ rest)) v a (omega arith) t unseen in
    rw append_assoc (subst (λ (n : ℕ). read_then first second n (us ++ (x ∷ (vs ++ rest))) ≡ large) (sym all)
    (come ∙ (parts.exact' a).exceeds (b - v) (x ∷ vs) rest w (omega arith) u (omega arith)))

first_exceeds : {T A C : Type 0} (first : Reader T A) (second : A → Reader T C) (b : ℕ) (ts : List T) → first b ts ≡ large → read_then first second b ts ≡ large
first_exceeds first second b ts is = rw is refl

sequence_exceeds : {T A B C : Type 0} (class : T → ℕ) (one two : Shape) (f : A → B → C) (guard depth : ℕ) (sure p : Rule T A) (sure' q : A → Rule T B) (first : Reader T A) (second : A → Reader T C)
    → Parts class one two f guard depth sure p sure' q first second
    → (b : ℕ) (us rest : List T) (w : ℕ) → b < guard + depth → FrontOfSequence p q us w → b < w
    → read_then first second b (us ++ rest) ≡ large
sequence_exceeds class one two f guard depth sure p sure' q first second parts b us rest w in_depth (of_first t) over =
    first_exceeds first second b (us ++ rest) (parts.exact.exceeds b us rest w in_depth t over)
sequence_exceeds class one two f guard depth sure p sure' q first second parts b us rest w in_depth (of_rest {us = xs} {vs} {v} {w = y} {a} t u) over =
    elim (or_at_most v b) [
      | inl fits ↦ rest_exceeds class one two f guard depth sure p sure' q first second parts b xs vs rest v y a in_depth t u over fits
      | inr under ↦ rw append_assoc (first_exceeds first second b (xs ++ (vs ++ rest)) (parts.exact.exceeds b xs (vs ++ rest) v in_depth (parts.exact.shaped.whole_front xs v a t) under))
    ]

pub sequence_exact_of : {T A B C : Type 0} (class : T → ℕ) (one two : Shape) (f : A → B → C) (guard depth : ℕ) (sure p : Rule T A) (sure' q : A → Rule T B) (first : Reader T A) (second : A → Reader T C)
    → Parts class one two f guard depth sure p sure' q first second
    → Exact class (sequence_shape one two) (guard + depth) (followed f sure sure') (followed f p q) (read_then first second)
sequence_exact_of class one two f guard depth sure p sure' q first second parts = record {
  says = λ b ts. says_both f sure sure' second b ts (λ a. (parts.exact' a).says) (first b ts) (parts.exact.says b ts);
  gets = sequence_gets class one two f guard depth sure p sure' q first second parts;
  reaches = sequence_reaches class one two f guard depth sure p sure' q first second parts;
  exceeds = sequence_exceeds class one two f guard depth sure p sure' q first second parts;
  sure_shape = sequence_shaped class one two f sure sure' parts.exact.sure_shape (λ a. (parts.exact' a).sure_shape);
  shaped = sequence_shaped class one two f p q parts.exact.shaped (λ a. (parts.exact' a).shaped);
}

-- A sequence whose second reader uses the first one's value.
pub sequence_exact_then : {T A B C : Type 0} {class : T → ℕ} {one two : Shape} {depth : ℕ} {sure p : Rule T A} {sure' q : A → Rule T B} {first : Reader T A} {second : A → Reader T C} (f : A → B → C)
    → Exact class one depth sure p first → ((a : A) → Exact class two depth (mapped_to (f a) (sure' a)) (mapped_to (f a) (q a)) (second a)) → is_disjoint two.first one.more ≡ true
    → Exact class (sequence_shape one two) depth (followed f sure sure') (followed f p q) (read_then first second)
sequence_exact_then {class = class} {one = one} {two = two} {depth = depth} {sure = sure} {p = p} {sure' = sure'} {q = q} {first = first} {second = second} f exact exact' apart =
    let same : 0 + depth ≡ depth = omega arith in
    subst (λ (n : ℕ). Exact class (sequence_shape one two) n (followed f sure sure') (followed f p q) (read_then first second)) same
    (sequence_exact_of class one two f 0 depth sure p sure' q first second
    (record {
      exact = subst (λ (n : ℕ). Exact class one n sure p first) (sym same) exact;
      guarded = λ us w a t. omega arith;
      exact' = exact';
      apart = apart;
    }))

-- A part that may depend on what the first one has.
pub followed_exact : {T A B C : Type 0} {class : T → ℕ} {one two : Shape} {depth : ℕ} {sure p : Rule T A} {sure' q : A → Rule T B} {first : Reader T A} {second : A → Reader T B} (f : A → B → C)
    → Exact class one depth sure p first → ((a : A) → Exact class two depth (sure' a) (q a) (second a)) → is_disjoint two.first one.more ≡ true
    → Exact class (sequence_shape one two) depth (followed f sure sure') (followed f p q) (read_followed f first second)
followed_exact f exact exact' apart = sequence_exact_then f exact (λ a. mapped_exact (f a) (exact' a)) apart

-- A sequence of two parts.
pub sequence_exact : {T A B C : Type 0} {class : T → ℕ} {one two : Shape} {depth : ℕ} {sure p : Rule T A} {sure' q : Rule T B} {first : Reader T A} {second : Reader T B} (f : A → B → C)
    → Exact class one depth sure p first → Exact class two depth sure' q second → is_disjoint two.first one.more ≡ true
    → Exact class (sequence_shape one two) depth (sequence f sure sure') (sequence f p q) (read_sequence f first second)
sequence_exact f exact exact' apart = followed_exact f exact (λ a. exact') apart

-- A token that weighs something, and what stands behind it, which is read one level deeper.
token_weighs : {T A : Type 0} (value : T → Option A) (weight : ℕ) → nat_le 1 weight ≡ true → (us : List T) (w : ℕ) (a : A) → TakesToken value weight us w a → 1 ≤ w
token_weighs value weight some us w a (this u x is) = leb-true 1 weight some

pub guarded_exact : {T A B C : Type 0} {class : T → ℕ} {two : Shape} {depth : ℕ} {sure' q : Rule T B} {second : Reader T B} (set : List ℕ) (value : T → Option A) (weight : ℕ) → IsWithin class set value → nat_le 1 weight ≡ true → (f : A → B → C)
    → Exact class two depth sure' q second
    → Exact class (sequence_shape (token_shape set) two) (suc depth) (sequence f (token value weight) sure') (sequence f (token value weight) q) (read_sequence f (read_token value weight) second)
guarded_exact {class = class} {two = two} {depth = depth} {sure' = sure'} {q = q} {second = second} set value weight within some f exact' =
    let deeper : 1 + depth ≡ suc depth = omega arith in
    subst (λ (n : ℕ). Exact class (sequence_shape (token_shape set) two) n (sequence f (token value weight) sure') (sequence f (token value weight) q) (read_sequence f (read_token value weight) second)) deeper
    (sequence_exact_of class (token_shape set) two f 1 depth (token value weight) (token value weight) (λ a. sure') (λ a. q) (read_token value weight) (λ a. read_mapped (f a) second)
    (record {
      exact = token_exact class set value weight within (1 + depth);
      guarded = token_weighs value weight some;
      exact' = λ a. mapped_exact (f a) exact';
      apart = disjoint_none two.first;
    }))
