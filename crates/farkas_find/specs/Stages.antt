-- The stages of the elimination, over unbounded whole numbers. A stage is tidied, and a column that may go is chosen.
-- The next stage has the rows without the column, and then the rows that pairs of the others give.
use Rattle.std.specs.Prelude.{◌≡◌, ℕ, zero, suc, ◌+◌, ◌<◌, ◌≤◌, not, List, [], ◌∷◌, ◌++◌, length, map, filter, All, Option, Some, None, ◌⊎◌}
use Rattle.az_lin.specs.Affine.{Affine}
use Rattle.farkas_find.specs.Tidying.{row_at, coef_at, is_zero, rounded_rows, rounding_steps, contradiction_in, tidied}
use Rattle.farkas_find.specs.Combining.{all_pairs, pairs_with, combined_at, step_at, FitsAt, numbered_from}
use Rattle.farkas_find.specs.Choosing.{choice_of}
use Rattle.farkas_find.specs.declared.numbered.Numbered.{Numbered}
use Rattle.farkas_find.specs.declared.choice.Pair.{Pair}
use Rattle.farkas_find.specs.declared.choice.Choice.{Choice}
use Rattle.farkas_find.specs.declared.trail.Stage.{Stage}
use Rattle.farkas_find.specs.declared.trail.Ended.{Ended}
use Rattle.farkas_find.specs.declared.trail.Ended.TheVariants.{Refuted, Left}
use Rattle.farkas_find.specs.declared.trail.Finished.{Finished}

-- the given rows, numbered from 0
abbrev pub given_rows : List Affine → List Numbered
given_rows rows = numbered_from 0 rows

abbrev pub first_stage : List Numbered → Stage
first_stage given = record { rows = given; next = length given; steps = []; trail = [] }

-- how many rows a stage may have before it is tidied
abbrev pub HasFew : List Numbered → Type 0
HasFew rows = length rows ≤ 20000

abbrev pub HasMany : List Numbered → Type 0
HasMany rows = 20000 < length rows

-- a stage after it is tidied
abbrev pub tidied_rows : Stage → List Numbered
tidied_rows stage = tidied stage.next stage.rows

abbrev pub tidied_stage : Stage → Stage
tidied_stage stage = record {
  rows = tidied_rows stage;
  next = stage.next + length (rounding_steps stage.rows);
  steps = stage.steps ++ rounding_steps stage.rows;
  trail = stage.trail;
}

-- what a choice makes of tidied rows: the rows without the column, those with it, and the pairs of these
unfoldable pub rows_without : ℕ → List Numbered → List Numbered
rows_without column rows = filter (λ it. is_zero (coef_at column it)) rows

unfoldable pub rows_with : ℕ → List Numbered → List Numbered
rows_with column rows = filter (λ it. not (is_zero (coef_at column it))) rows

abbrev pub pairs_by : ℕ → Option Pair → List Numbered → List Pair
pairs_by column None rows = all_pairs column rows
pairs_by column (Some chosen) rows = pairs_with column chosen rows

abbrev pub pairs_for : Choice → List Numbered → List Pair
pairs_for choice rows = pairs_by choice.column choice.pair rows

unfoldable pub next_rows : Choice → ℕ → List Numbered → List Numbered
next_rows choice next rows =
    rows_without choice.column rows ++ numbered_from next (map (combined_at choice.column rows) (pairs_for choice rows))

-- every number on the way to the next rows is in range
abbrev pub StaysWide : Choice → List Numbered → Type 0
StaysWide choice rows = All (FitsAt choice.column rows) (pairs_for choice rows)

-- the stage after a tidied one
unfoldable pub without_column : Choice → Stage → Stage
without_column choice stage = record {
  rows = next_rows choice stage.next stage.rows;
  next = stage.next + length (pairs_for choice stage.rows);
  steps = stage.steps ++ map (step_at choice.column stage.rows) (pairs_for choice stage.rows);
  trail = stage.trail ++ record { column = choice.column; rows = rows_with choice.column stage.rows } ∷ [];
}

abbrev pub stage_after : Choice → Stage → Stage
stage_after choice stage = without_column choice (tidied_stage stage)

abbrev pub rows_after : Choice → Stage → List Numbered
rows_after choice stage = next_rows choice (tidied_stage stage).next (tidied_rows stage)

-- no row refutes the system, and this is the choice among the columns that may go
pub record Chooses (columns : List ℕ) (stage : Stage) (choice : Choice) : Type 0 where
  pub unrefuted : contradiction_in stage.next stage.rows ≡ None
  pub chosen : choice_of columns (tidied_rows stage) ≡ Some choice

-- the next stage, where it is reached in range and has no more rows than a stage may have
pub record Follows (columns : List ℕ) (earlier stage : Stage) : Type 0 where
  pub choice : Choice
  pub chooses : Chooses columns earlier choice
  pub wide : StaysWide choice (tidied_rows earlier)
  pub few : HasFew stage.rows
  pub next : stage ≡ stage_after choice earlier

-- stage s, reached in range from the given rows
abbrev pub IsReached : List ℕ → List Numbered → ℕ → Stage → Type 0
IsReached columns given zero stage = HasFew stage.rows × (stage ≡ first_stage given)
IsReached columns given (suc s) stage = (earlier : Stage) × IsReached columns given s earlier × Follows columns earlier stage

-- a number first leaves the range in stage s: on the way to the next stage's rows, which are few enough to be made
pub record LeavesRangeAt (columns : List ℕ) (given : List Numbered) (s : ℕ) : Type 0 where
  pub stage : Stage
  pub choice : Choice
  pub reached : IsReached columns given s stage
  pub chooses : Chooses columns stage choice
  pub few : HasFew (rows_after choice stage)
  pub leaves : ¬ StaysWide choice (tidied_rows stage)

-- the stage after stage s is the first that has too many rows
pub record GrowsAt (columns : List ℕ) (given : List Numbered) (s : ℕ) : Type 0 where
  pub stage : Stage
  pub choice : Choice
  pub reached : IsReached columns given s stage
  pub chooses : Chooses columns stage choice
  pub many : HasMany (rows_after choice stage)

abbrev pub PassesLimit : List ℕ → List Numbered → Type 0
PassesLimit columns given = HasMany given ⊎ ((s : ℕ) × GrowsAt columns given s)

-- how the last stage ends: a row refutes the system, or no row that tidying leaves has a column that may go
abbrev pub EndsBy : List ℕ → Stage → Ended → Type 0
EndsBy columns stage (Refuted number) =
    (place : ℕ) × (contradiction_in stage.next stage.rows ≡ Some place)
    × (number ≡ (row_at (rounded_rows stage.next stage.rows) place).number)
EndsBy columns stage (Left left) =
    (contradiction_in stage.next stage.rows ≡ None) × (choice_of columns (tidied_rows stage) ≡ None) × (left ≡ tidied_rows stage)

pub record Finishes (columns : List ℕ) (given : List Numbered) (finished : Finished) : Type 0 where
  pub number : ℕ
  pub stage : Stage
  pub reached : IsReached columns given number stage
  pub ends : EndsBy columns stage finished.ended
  pub steps : finished.steps ≡ stage.steps ++ rounding_steps stage.rows
  pub trail : finished.trail ≡ stage.trail
