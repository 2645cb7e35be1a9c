-- What the calls answer.
use Rattle.std.specs.Prelude.{◌≡◌, ℕ, List, length, map, All, None, Some, IsSome, Result, Ok, Err, ℤ, ◌⊎◌, ◌≢◌, ◌<◌, pos, slice_index_or}
use Rattle.az_lin.specs.Affine.{Affine, IsAtLeastZero}
use Rattle.az_lin.specs.declared.limit.Limit.TheVariants.{Rows as TooManyRows}
use Rattle.farkas_find.specs.Tidying.{row_at, rounded_rows, contradiction_in, tidied}
use Rattle.farkas_find.specs.Choosing.{pair_in, choice_of}
use Rattle.farkas_find.specs.Stages.{first_stage, HasFew, HasMany, tidied_rows, rows_after, StaysWide, IsReached, LeavesRangeAt, PassesLimit}
use Rattle.farkas_find.specs.Rows.{affine_of}
use Rattle.farkas_find.specs.declared.numbered.Numbered.{Numbered}
use Rattle.farkas_find.specs.declared.choice.Choice.{Choice}
use Rattle.farkas_find.specs.declared.trail.Stage.{Stage}
use Rattle.farkas_find.specs.declared.fault.FindFault.{FindFault}
use Rattle.farkas_find.specs.declared.fault.FindFault.TheVariants.{Overflow, Limit, Memory}
use Rattle.farkas_find.specs.declared.stage.AfterTidying.{AfterTidying}
use Rattle.farkas_find.specs.declared.stage.AfterTidying.TheVariants.{Refuted, Kept}
use Rattle.farkas_find.specs.declared.wide.WideRow.{WideRow}
use Rattle.farkas_find.specs.declared.left.Left.{Left}
use Rattle.farkas_find.specs.declared.left.Left.TheVariants.{Contradiction, Rows}

-- tidying rows of which the next new one takes this number
abbrev pub IsTidied : ℕ → List Numbered → AfterTidying → Type 0
IsTidied next rows (Refuted number) =
    (place : ℕ) × (contradiction_in next rows ≡ Some place) × (number ≡ (row_at (rounded_rows next rows) place).number)
IsTidied next rows (Kept left) = (contradiction_in next rows ≡ None) × (left.items ≡ tidied next rows)

-- the rows that are handed out
abbrev pub AreRows : List Numbered → List WideRow → Type 0
AreRows rows left = map affine_of left ≡ map (λ it. it.row) rows

-- whether a point may lie in what is left
abbrev pub HoldsIn : List ℤ → Left → Type 0
HoldsIn z Contradiction = ⊥
HoldsIn z (Rows left) = All (IsAtLeastZero z) (map affine_of left)

-- tidying alone
abbrev pub TidiesTo : List Numbered → Left → Type 0
TidiesTo given Contradiction = IsSome (contradiction_in (length given) given)
TidiesTo given (Rows left) = (contradiction_in (length given) given ≡ None) × AreRows (tidied (length given) given) left

abbrev pub TidyAnswers : List Numbered → Result Left FindFault → Type 0
TidyAnswers given (Ok left) = HasFew given × TidiesTo given left
TidyAnswers given (Err (Overflow stage)) = ⊥
TidyAnswers given (Err (Limit limit)) = (limit ≡ TooManyRows) × HasMany given
TidyAnswers given (Err Memory) = Unit {0}

-- dropping one column: by the pair in it if there is one, and else by all pairs
unfoldable pub choice_in : ℕ → List Numbered → Choice
choice_in column rows = record { column = column; pair = pair_in column rows }

abbrev pub choice_for : ℕ → Stage → Choice
choice_for column stage = choice_in column (tidied_rows stage)

pub record DropsRows (column : ℕ) (stage : Stage) (left : List WideRow) : Type 0 where
  pub unrefuted : contradiction_in stage.next stage.rows ≡ None
  pub few : HasFew (rows_after (choice_for column stage) stage)
  pub wide : StaysWide (choice_for column stage) (tidied_rows stage)
  pub rows : AreRows (rows_after (choice_for column stage) stage) left

pub record DropLeavesRange (column : ℕ) (stage : Stage) : Type 0 where
  pub unrefuted : contradiction_in stage.next stage.rows ≡ None
  pub few : HasFew (rows_after (choice_for column stage) stage)
  pub leaves : ¬ StaysWide (choice_for column stage) (tidied_rows stage)

pub record DropPassesLimit (column : ℕ) (stage : Stage) : Type 0 where
  pub unrefuted : contradiction_in stage.next stage.rows ≡ None
  pub many : HasMany (rows_after (choice_for column stage) stage)

abbrev pub DropsTo : ℕ → Stage → Left → Type 0
DropsTo column stage Contradiction = IsSome (contradiction_in stage.next stage.rows)
DropsTo column stage (Rows left) = DropsRows column stage left

abbrev pub DropAnswers : ℕ → List Numbered → Result Left FindFault → Type 0
DropAnswers column given (Ok left) = HasFew given × DropsTo column (first_stage given) left
DropAnswers column given (Err (Overflow stage)) = (stage ≡ 0) × HasFew given × DropLeavesRange column (first_stage given)
DropAnswers column given (Err (Limit limit)) = (limit ≡ TooManyRows) × (HasMany given ⊎ DropPassesLimit column (first_stage given))
DropAnswers column given (Err Memory) = Unit {0}

-- going through the stages
abbrev pub EndsTo : List ℕ → Stage → Left → Type 0
EndsTo columns stage Contradiction = IsSome (contradiction_in stage.next stage.rows)
EndsTo columns stage (Rows left) =
    (contradiction_in stage.next stage.rows ≡ None) × (choice_of columns (tidied_rows stage) ≡ None) × AreRows (tidied_rows stage) left

abbrev pub RangeAnswers : List ℕ → List Numbered → Result Left FindFault → Type 0
RangeAnswers columns given (Ok left) = (s : ℕ) × (stage : Stage) × IsReached columns given s stage × EndsTo columns stage left
RangeAnswers columns given (Err (Overflow s)) = LeavesRangeAt columns given s
RangeAnswers columns given (Err (Limit limit)) = (limit ≡ TooManyRows) × PassesLimit columns given
RangeAnswers columns given (Err Memory) = Unit {0}

-- no row that is left has a column but this one
abbrev pub LacksOthers : ℕ → ℕ → Affine → Type 0
LacksOthers width column row = (other : ℕ) → other < width → other ≢ column → slice_index_or row.coefs other (pos 0) ≡ pos 0

abbrev pub HasOnly : ℕ → ℕ → Left → Type 0
HasOnly width column Contradiction = Unit {0}
HasOnly width column (Rows left) = All (LacksOthers width column) (map affine_of left)
