-- What the parts of a stage answer.
use Rattle.std.specs.Prelude.{◌≡◌, ℕ, ◌<◌, ◌≤◌, List, ◌++◌, length, Option, MatchOption, Some, None, Result, Ok, Err}
use Rattle.std.specs.Global.{Vec}
use Rattle.az_lin.specs.declared.limit.Limit.TheVariants.{Rows as TooManyRows}
use Rattle.farkas_find.specs.Combining.{IsPair}
use Rattle.farkas_find.specs.Choosing.{choice_of}
use Rattle.farkas_find.specs.Tidying.{rounding_steps}
use Rattle.farkas_find.specs.Stages.{HasFew, HasMany, tidied_rows, next_rows, rows_after, rows_with, StaysWide, without_column, Chooses, Follows, EndsBy, Finishes, LeavesRangeAt, PassesLimit}
use Rattle.farkas_find.specs.declared.numbered.Numbered.{Numbered}
use Rattle.farkas_find.specs.declared.choice.Pair.{Pair}
use Rattle.farkas_find.specs.declared.choice.Choice.{Choice}
use Rattle.farkas_find.specs.declared.next.NextRows.{NextRows}
use Rattle.farkas_find.specs.declared.trail.Stage.{Stage}
use Rattle.farkas_find.specs.declared.trail.Ended.{Ended}
use Rattle.farkas_find.specs.declared.trail.Ended.TheVariants.{Refuted, Left}
use Rattle.farkas_find.specs.declared.left.Left.{Left as Rest}
use Rattle.farkas_find.specs.declared.left.Left.TheVariants.{Contradiction, Rows}
use Rattle.farkas_find.specs.Answers.{AreRows, choice_in}
use Rattle.farkas_find.specs.declared.trail.Finished.{Finished}
use Rattle.farkas_find.specs.declared.advance.Advanced.{Advanced}
use Rattle.farkas_find.specs.declared.advance.Advanced.TheVariants.{Last, Next}
use Rattle.farkas_find.specs.declared.fault.FindFault.{FindFault}
use Rattle.farkas_find.specs.declared.fault.FindFault.TheVariants.{Overflow, Limit, Memory}

-- the wanted pairs, if there are at most so many
abbrev pub IsWithin : ℕ → List Pair → Option (Vec Pair) → Type 0
IsWithin most wanted got = MatchOption got (most < length wanted) (λ pairs. (length wanted ≤ most) × (pairs.items ≡ wanted))

-- a column of the rows, and a pair of rows that are positive and negative in it
abbrev pub IsPairChoice : ℕ → List Numbered → Option Pair → Type 0
IsPairChoice column rows None = Unit {0}
IsPairChoice column rows (Some pair) = IsPair column rows pair

pub record IsChoice (width : ℕ) (rows : List Numbered) (choice : Choice) : Type 0 where
  pub inside : choice.column < width
  pub pair : IsPairChoice choice.column rows choice.pair

-- making the next stage's rows, at this stage
pub record IsNext (choice : Choice) (next : ℕ) (tidied : List Numbered) (made : NextRows) : Type 0 where
  pub few : HasFew (next_rows choice next tidied)
  pub wide : StaysWide choice tidied
  pub rows : made.rows.items ≡ next_rows choice next tidied
  pub used : made.used.items ≡ rows_with choice.column tidied

abbrev pub NextAnswers : ℕ → Choice → ℕ → List Numbered → Result NextRows FindFault → Type 0
NextAnswers stage choice next rows (Ok made) = IsNext choice next rows made
NextAnswers stage choice next rows (Err (Overflow s)) = (s ≡ stage) × HasFew (next_rows choice next rows) × (¬ StaysWide choice rows)
NextAnswers stage choice next rows (Err (Limit limit)) = (limit ≡ TooManyRows) × HasMany (next_rows choice next rows)
NextAnswers stage choice next rows (Err Memory) = Unit {0}

-- eliminating a column from a tidied stage
pub record IsWithout (choice : Choice) (tidied next : Stage) : Type 0 where
  pub few : HasFew next.rows
  pub wide : StaysWide choice tidied.rows
  pub is : next ≡ without_column choice tidied

abbrev pub WithoutAnswers : ℕ → Choice → Stage → Result Stage FindFault → Type 0
WithoutAnswers number choice stage (Ok next) = IsWithout choice stage next
WithoutAnswers number choice stage (Err (Overflow s)) = (s ≡ number) × HasFew (next_rows choice stage.next stage.rows) × (¬ StaysWide choice stage.rows)
WithoutAnswers number choice stage (Err (Limit limit)) = (limit ≡ TooManyRows) × HasMany (next_rows choice stage.next stage.rows)
WithoutAnswers number choice stage (Err Memory) = Unit {0}

-- going on from a tidied stage by the choice of a column
abbrev pub ChosenTo : List ℕ → Stage → Advanced → Type 0
ChosenTo columns stage (Last finished) =
    (choice_of columns stage.rows ≡ None) × (finished ≡ record { ended = Left stage.rows; steps = stage.steps; trail = stage.trail })
ChosenTo columns stage (Next next) = (choice : Choice) × (choice_of columns stage.rows ≡ Some choice) × IsWithout choice stage next

abbrev pub ChosenAnswers : List ℕ → Stage → ℕ → Result Advanced FindFault → Type 0
ChosenAnswers columns stage number (Ok advanced) = ChosenTo columns stage advanced
ChosenAnswers columns stage number (Err (Overflow s)) =
    (s ≡ number) × ((choice : Choice) × (choice_of columns stage.rows ≡ Some choice) × HasFew (next_rows choice stage.next stage.rows) × (¬ StaysWide choice stage.rows))
ChosenAnswers columns stage number (Err (Limit limit)) =
    (limit ≡ TooManyRows) × ((choice : Choice) × (choice_of columns stage.rows ≡ Some choice) × HasMany (next_rows choice stage.next stage.rows))
ChosenAnswers columns stage number (Err Memory) = Unit {0}

-- going on from a stage
pub record IsLast (columns : List ℕ) (stage : Stage) (finished : Finished) : Type 0 where
  pub ends : EndsBy columns stage finished.ended
  pub steps : finished.steps ≡ stage.steps ++ rounding_steps stage.rows
  pub trail : finished.trail ≡ stage.trail

abbrev pub AdvancesTo : List ℕ → Stage → Advanced → Type 0
AdvancesTo columns stage (Last finished) = IsLast columns stage finished
AdvancesTo columns stage (Next next) = Follows columns stage next

abbrev pub AdvanceAnswers : List ℕ → Stage → ℕ → Result Advanced FindFault → Type 0
AdvanceAnswers columns stage number (Ok advanced) = AdvancesTo columns stage advanced
AdvanceAnswers columns stage number (Err (Overflow s)) =
    (s ≡ number) × ((choice : Choice) × Chooses columns stage choice × HasFew (rows_after choice stage) × (¬ StaysWide choice (tidied_rows stage)))
AdvanceAnswers columns stage number (Err (Limit limit)) = (limit ≡ TooManyRows) × ((choice : Choice) × Chooses columns stage choice × HasMany (rows_after choice stage))
AdvanceAnswers columns stage number (Err Memory) = Unit {0}

-- going through the stages
abbrev pub RunAnswers : List ℕ → List Numbered → Result Finished FindFault → Type 0
RunAnswers columns given (Ok finished) = Finishes columns given finished
RunAnswers columns given (Err (Overflow s)) = LeavesRangeAt columns given s
RunAnswers columns given (Err (Limit limit)) = (limit ≡ TooManyRows) × PassesLimit columns given
RunAnswers columns given (Err Memory) = Unit {0}

-- the given rows, if a stage may have so many
abbrev pub GivenAnswers : List Numbered → Result (Vec Numbered) FindFault → Type 0
GivenAnswers wanted (Ok given) = HasFew wanted × (given.items ≡ wanted)
GivenAnswers wanted (Err (Overflow s)) = ⊥
GivenAnswers wanted (Err (Limit limit)) = (limit ≡ TooManyRows) × HasMany wanted
GivenAnswers wanted (Err Memory) = Unit {0}

-- dropping a column from tidied rows
abbrev pub DroppedTo : ℕ → ℕ → List Numbered → Rest → Type 0
DroppedTo column next rows Contradiction = ⊥
DroppedTo column next rows (Rows left) =
    HasFew (next_rows (choice_in column rows) next rows) × StaysWide (choice_in column rows) rows × AreRows (next_rows (choice_in column rows) next rows) left

abbrev pub DroppedAnswers : ℕ → ℕ → List Numbered → Result Rest FindFault → Type 0
DroppedAnswers column next rows (Ok left) = DroppedTo column next rows left
DroppedAnswers column next rows (Err (Overflow s)) =
    (s ≡ 0) × HasFew (next_rows (choice_in column rows) next rows) × (¬ StaysWide (choice_in column rows) rows)
DroppedAnswers column next rows (Err (Limit limit)) = (limit ≡ TooManyRows) × HasMany (next_rows (choice_in column rows) next rows)
DroppedAnswers column next rows (Err Memory) = Unit {0}

-- handing out what the last stage left
abbrev pub EndsAs : Ended → Rest → Type 0
EndsAs (Refuted number) Contradiction = Unit {0}
EndsAs (Refuted number) (Rows left) = ⊥
EndsAs (Left rows) Contradiction = ⊥
EndsAs (Left rows) (Rows left) = AreRows rows left

abbrev pub EndAnswers : Ended → Result Rest FindFault → Type 0
EndAnswers ended (Ok rest) = EndsAs ended rest
EndAnswers ended (Err (Overflow s)) = ⊥
EndAnswers ended (Err (Limit limit)) = ⊥
EndAnswers ended (Err Memory) = Unit {0}
