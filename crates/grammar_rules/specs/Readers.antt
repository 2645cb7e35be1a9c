-- Readers as functions on token lists, one for each way of building a rule. A reader is given a budget
-- of weight and the tokens, and decides by the next token alone, by sets that are written out.
use Rattle.std.specs.Prelude.{ℕ, zero, suc, ◌+◌, ◌-◌, min, Bool, false, ◌||◌, ◌==◌, if◌then◌else◌, nat_le, List, [], ◌∷◌, length, Option, Some, None}
use Rattle.grammar_rules.specs.Rules.{single, put_last}

-- what a reader answers: a value, with the tokens and the budget that are left; that the reading can't
-- go on, where so many tokens are left; or that the budget is exceeded
pub data Answer (T A : Type 0) : Type 0 where
  got : A → List T → ℕ → Answer T A
  wrong : ℕ → Answer T A
  large : Answer T A

abbrev pub Reader : Type 0 → Type 0 → Type 0
Reader T A = ℕ → List T → Answer T A

-- go on from an answer
abbrev pub after : {T A B : Type 0} → Answer T A → (A → Reader T B) → Answer T B
after (got a rest budget) go_on = go_on a budget rest
after (wrong remaining) go_on = wrong remaining
after large go_on = large

-- A set of tokens is a list of classes.
abbrev pub has : List ℕ → ℕ → Bool
has [] c = false
has (x ∷ xs) c = c == x || has xs c

-- the look-ahead: the next token is in the set
abbrev pub sees : {T : Type 0} → (T → ℕ) → List ℕ → List T → Bool
sees class set [] = false
sees class set (t ∷ ts) = has set (class t)

abbrev pub spend : {T A : Type 0} → ℕ → A → Reader T A
spend weight a budget rest = if nat_le weight budget then got a rest (budget - weight) else large

abbrev pub spend_on : {T A : Type 0} → Option A → ℕ → T → Reader T A
spend_on (Some a) weight t budget ts = spend weight a budget ts
spend_on None weight t budget ts = wrong (length (t ∷ ts))

abbrev pub read_token : {T A : Type 0} → (T → Option A) → ℕ → Reader T A
read_token value weight budget [] = wrong 0
read_token value weight budget (t ∷ ts) = spend_on (value t) weight t budget ts

abbrev pub read_nothing : {T A : Type 0} → A → Reader T A
read_nothing a budget ts = got a ts budget

abbrev pub read_mapped : {T A B : Type 0} → (A → B) → Reader T A → Reader T B
read_mapped f p budget ts = after (p budget ts) (λ a. read_nothing (f a))

abbrev pub read_then : {T A B : Type 0} → Reader T A → (A → Reader T B) → Reader T B
read_then p go_on budget ts = after (p budget ts) go_on

abbrev pub read_followed : {T A B C : Type 0} → (A → B → C) → Reader T A → (A → Reader T B) → Reader T C
read_followed f p q = read_then p (λ a. read_mapped (f a) (q a))

abbrev pub read_sequence : {T A B C : Type 0} → (A → B → C) → Reader T A → Reader T B → Reader T C
read_sequence f p q = read_followed f p (λ a. q)

abbrev pub read_choice : {T A : Type 0} → (T → ℕ) → List ℕ → Reader T A → Reader T A → Reader T A
read_choice class set p q budget ts = if sees class set ts then p budget ts else q budget ts

abbrev pub read_optional : {T A : Type 0} → (T → ℕ) → List ℕ → Reader T A → Reader T (Option A)
read_optional class set p = read_choice class set (read_mapped Some p) (read_nothing None)

-- at most `turns` members, each put to the value so far
abbrev pub read_turns : {T A B : Type 0} → (T → ℕ) → List ℕ → (A → B → A) → Reader T B → ℕ → A → Reader T A
read_turns class set step q zero a budget ts = got a ts budget
read_turns class set step q (suc turns) a budget ts =
    if sees class set ts then after (q budget ts) (λ b. read_turns class set step q turns (step a b)) else got a ts budget

-- members as long as the next token is in the set; each takes a token at least
abbrev pub read_onto : {T A B : Type 0} → (T → ℕ) → List ℕ → (A → B → A) → Reader T B → A → Reader T A
read_onto class set step q a budget ts = read_turns class set step q (length ts) a budget ts

abbrev pub read_left : {T A B : Type 0} → (T → ℕ) → List ℕ → (A → B → A) → Reader T A → Reader T B → Reader T A
read_left class set step p q = read_then p (read_onto class set step q)

abbrev pub read_many : {T A : Type 0} → (T → ℕ) → List ℕ → Reader T A → Reader T (List A)
read_many class set q = read_onto class set put_last q []

abbrev pub read_list_of : {T A : Type 0} → (T → ℕ) → List ℕ → Reader T A → Reader T A → Reader T (List A)
read_list_of class set p q = read_left class set put_last (read_mapped single p) q

abbrev pub capped : {T A : Type 0} → ℕ → Answer T A → Answer T A
capped budget (got a rest remaining) = got a rest (min budget remaining)
capped budget (wrong remaining) = wrong remaining
capped budget large = large

abbrev pub read_fresh : {T A : Type 0} → ℕ → Reader T A → Reader T A
read_fresh limit p budget ts = capped budget (p (budget + limit) ts)

abbrev pub read_level : {T A : Type 0} → (Reader T A → Reader T A) → ℕ → Reader T A
read_level body zero budget ts = wrong (length ts)
read_level body (suc n) budget ts = body (read_level body n) budget ts
