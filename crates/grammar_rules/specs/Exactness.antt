-- What it means that a reader follows a rule exactly.
use Rattle.std.specs.Prelude.{◌≡◌, ℕ, ◌+◌, ◌<◌, ◌≤◌, Bool, true, false, not, ◌&&◌, if◌then◌else◌, List, [], ◌∷◌, ◌++◌, length, Option, Some}
use Rattle.grammar_rules.specs.Rules.{Rule}
use Rattle.grammar_rules.specs.Readers.{Answer, got, wrong, large, Reader, has, sees}

-- the classes with which a rule begins, whether it takes the empty list, and the classes that could go
-- on behind what it takes
pub record Shape : Type 0 where
  pub first : List ℕ
  pub empty : Bool
  pub more : List ℕ

abbrev pub BeginsIn : {T : Type 0} → (T → ℕ) → List ℕ → Bool → List T → Type 0
BeginsIn class first empty [] = empty ≡ true
BeginsIn class first empty (t ∷ ts) = has first (class t) ≡ true

abbrev pub IsLight : {T : Type 0} → List T → ℕ → Type 0
IsLight [] w = w ≡ 0
IsLight (t ∷ ts) w = Unit {0}

-- What holds of a rule with this shape.
pub record HasShape {T A : Type 0} (class : T → ℕ) (shape : Shape) (rule : Rule T A) : Type 0 where
  pub begins : (us : List T) (w : ℕ) (a : A) → rule.takes us w a → BeginsIn class shape.first shape.empty us
  pub begins_front : (us : List T) (w : ℕ) → rule.front us w → BeginsIn class shape.first true us
  pub light : (us : List T) (w : ℕ) → rule.front us w → IsLight us w
  pub empty_front : rule.front [] 0
  pub whole_front : (us : List T) (w : ℕ) (a : A) → rule.takes us w a → rule.front us w

-- What an answer says of the tokens that were read.
abbrev pub Says : {T A : Type 0} → Rule T A → ℕ → List T → Answer T A → Type 0
Says rule budget ts (got a rest remaining) = (us : List _) × (w : ℕ) × (ts ≡ us ++ rest) × (budget ≡ w + remaining) × rule.takes us w a
Says rule budget ts (wrong remaining) = (us : List _) × (rest : List _) × (w : ℕ) × (ts ≡ us ++ rest) × (w ≤ budget) × rule.front us w × (remaining ≡ length rest)
Says rule budget ts large = (us : List _) × (vs : List _) × (w : ℕ) × (ts ≡ us ++ vs) × (budget < w) × rule.front us w

-- The answer leaves no more than these tokens.
abbrev pub LeavesAtMost : {T A : Type 0} → List T → Answer T A → Type 0
LeavesAtMost rest (got a remaining budget) = length remaining ≤ length rest
LeavesAtMost rest (wrong remaining) = remaining ≤ length rest
LeavesAtMost rest large = Unit {0}

-- A reader that follows a rule exactly, for budgets below `depth`. What it answers is so by the rule
-- `sure`, and what the rule `rule` has is answered. The two are one rule, but while a recursive rule is
-- proved: there each budget is spent before the reader can go deeper than its level, so what is
-- answered holds of one level and what is there at any level is found.
pub record Exact {T A : Type 0} (class : T → ℕ) (shape : Shape) (depth : ℕ) (sure rule : Rule T A) (reader : Reader T A) : Type 0 where
  pub says : (budget : ℕ) (ts : List T) → Says sure budget ts (reader budget ts)
  pub gets : (budget : ℕ) (us rest : List T) (w : ℕ) (a : A) → w + budget < depth → rule.takes us w a → sees class shape.more rest ≡ false → reader (w + budget) (us ++ rest) ≡ got a rest budget
  pub reaches : (budget : ℕ) (us rest : List T) (w : ℕ) → budget < depth → rule.front us w → w ≤ budget → LeavesAtMost rest (reader budget (us ++ rest))
  pub exceeds : (budget : ℕ) (us rest : List T) (w : ℕ) → budget < depth → rule.front us w → budget < w → reader budget (us ++ rest) ≡ large
  pub sure_shape : HasShape class shape sure
  pub shaped : HasShape class shape rule

abbrev pub is_subset : List ℕ → List ℕ → Bool
is_subset [] ys = true
is_subset (x ∷ xs) ys = has ys x && is_subset xs ys

abbrev pub is_disjoint : List ℕ → List ℕ → Bool
is_disjoint [] ys = true
is_disjoint (x ∷ xs) ys = not (has ys x) && is_disjoint xs ys

-- tokens with a value have their class in the set
abbrev pub IsWithin : {T A : Type 0} → (T → ℕ) → List ℕ → (T → Option A) → Type 0
IsWithin class set value = (t : _) (a : _) → value t ≡ Some a → has set (class t) ≡ true

-- the shapes of the ways of building a rule
abbrev pub token_shape : List ℕ → Shape
token_shape set = record { first = set; empty = false; more = [] }

abbrev pub nothing_shape : Shape
nothing_shape = record { first = []; empty = true; more = [] }

abbrev pub sequence_shape : Shape → Shape → Shape
sequence_shape p q = record { first = if p.empty then p.first ++ q.first else p.first; empty = p.empty && q.empty; more = if q.empty then p.more ++ q.more else q.more }

abbrev pub choice_shape : List ℕ → Shape → Shape → Shape
choice_shape set p q = record { first = p.first ++ q.first; empty = q.empty; more = if q.empty then set ++ (p.more ++ q.more) else p.more ++ q.more }

abbrev pub many_shape : List ℕ → Shape → Shape
many_shape set q = record { first = q.first; empty = true; more = set ++ q.more }
