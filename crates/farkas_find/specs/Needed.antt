-- The derivation of a row, out of the log of all steps that were made. The log's steps are numbered on from the given
-- rows, as the rows that they make. A step is needed if its row is the one asked for, or if a later needed step names
-- it. The needed steps stay in order, and their rows are numbered anew.
use Rattle.std.specs.Prelude.{◌≡◌, true, ℕ, ◌+◌, ◌-◌, ◌<◌, Bool, ◌||◌, nat_eq, nat_lt, cond, List, [], ◌∷◌, length, map, take, count_by, slice_index_or, pos}
use Rattle.std.specs.List.{list_any, items_where_true}
use Rattle.az_lin.specs.declared.step.Step.{Step}

abbrev pub names : ℕ → Step → Bool
names number step = nat_eq step.i number || nat_eq step.j number

-- for each step whether it is needed for the row `target`; the first one makes the row `number`
abbrev pub needed : ℕ → ℕ → List Step → List Bool
needed target number [] = []
needed target number (step ∷ later) =
    let flags = needed target (number + 1) later in
    (nat_eq target number || list_any (names number) (items_where_true flags later)) ∷ flags

-- a given row keeps its number; before the row of a step stand the given ones and those of the needed steps before it
abbrev pub new_number : ℕ → List Bool → ℕ → ℕ
new_number given flags number = cond (nat_lt number given) number (given + count_by (λ flag. flag) (take (number - given) flags))

abbrev pub renumbered : ℕ → List Bool → Step → Step
renumbered given flags step = record step { i = new_number given flags step.i; j = new_number given flags step.j }

abbrev pub needed_steps : ℕ → List Bool → List Step → List Step
needed_steps given flags steps = map (renumbered given flags) (items_where_true flags steps)

-- a given row is its own derivation, by one step
abbrev pub itself : ℕ → Step
itself number = record { a = pos 1; i = number; b = pos 0; j = number; g = pos 1 }

unfoldable pub derivation_of : ℕ → ℕ → List Step → List Step
derivation_of target given steps =
    cond (nat_lt target given) (itself target ∷ []) (needed_steps given (needed target given steps) steps)

-- each step names rows that stand before its own
pub record NamesBefore (number : ℕ) (step : Step) : Type 0 where
  pub left : step.i < number
  pub right : step.j < number

abbrev pub EachNamesBefore : ℕ → List Step → Type 0
EachNamesBefore given steps = (k : ℕ) (d : Step) → k < length steps → NamesBefore (given + k) (slice_index_or steps k d)

-- no step is superfluous: each but the last makes a row that a later one names
abbrev pub UsesEachStep : ℕ → List Step → Type 0
UsesEachStep given steps = (k : ℕ) (d : Step) → k + 1 < length steps
    → (l : ℕ) × (k < l) × (l < length steps) × (names (given + k) (slice_index_or steps l d) ≡ true)
