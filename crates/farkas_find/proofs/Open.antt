-- The point that back-substitution finds meets every given row, rounded, where the stages end without a contradiction.
use Rattle.std.proofs.Common.{◌≡◌, ◌∙◌, ℕ, zero, suc, ◌<◌, ap, refl, sym, subst, Bool, true, List, [], ◌∷◌, ◌++◌, length, map, Option, Some, None, pos, ◌<ℤ◌}
use Rattle.std.specs.List.{All, filter}
use Rattle.std.proofs.lemmas.List.{length-set}
use Rattle.az_lin.specs.declared.step.RatPoint.{RatPoint}
use Rattle.farkas_find.specs.declared.numbered.Numbered.{Numbered}
use Rattle.farkas_find.specs.declared.choice.Pair.{Pair}
use Rattle.farkas_find.specs.declared.choice.Choice.{Choice}
use Rattle.farkas_find.specs.declared.trail.Stage.{Stage}
use Rattle.farkas_find.specs.declared.trail.Eliminated.{Eliminated}
use Rattle.farkas_find.specs.Tidying.{coef_at, is_zero, rounded, rounded_rows, contradiction_in}
use Rattle.farkas_find.specs.Combining.{HaveWidth, combined_at, numbered_from}
use Rattle.farkas_find.specs.Choosing.{free_columns}
use Rattle.farkas_find.specs.Inner.Nexts.{IsChoice, IsPairChoice}
use Rattle.farkas_find.specs.Stages.{first_stage, tidied_rows, tidied_stage, rows_without, pairs_by, pairs_for, next_rows, rows_after, stage_after, without_column, Follows, IsReached}
use Rattle.farkas_find.specs.BackSubstitution.{cleared, bounds_at, taken, placed, point_from}
use Rattle.farkas_find.proofs.Sublists.{All-filter_back, All-map_back, All-append_back, All-numbered_back}
use Rattle.farkas_find.proofs.Values.{Meets}
use Rattle.farkas_find.proofs.Reduced.{length-placed_by}
use Rattle.farkas_find.proofs.Room.{HasRoom, room_from_all, room_from_pair}
use Rattle.farkas_find.proofs.Fills.{gone_with, fills}
use Rattle.farkas_find.proofs.Opposite.{IsOppositeChoice, choice_of-opposite}
use Rattle.farkas_find.proofs.Untidied.{meets_untidied, meets_all_rounded, meets_all}
use Rattle.farkas_find.proofs.Widths.{HaveWidth-tidied, HaveWidth-next_rows}
use Rattle.farkas_find.proofs.Paired.{pairs_for-are_pairs}
use Rattle.farkas_find.proofs.Chosen.{choice-is_choice}
use Rattle.farkas_find.proofs.Staged.{rows_is}

abbrev MeetsRows : RatPoint → List Numbered → Type 0
MeetsRows point rows = All (λ it. Meets point it.row) rows

-- a point of the right width over a positive denominator
abbrev pub IsProperPoint : ℕ → RatPoint → Type 0
IsProperPoint width point = (length point.nums ≡ width) × (pos 0 <ℤ point.den)

-- the rows without the column are met, and those that the pairs give leave room
parts_met : (point : RatPoint) (choice : Choice) (next : ℕ) (rows : List Numbered) → MeetsRows point (next_rows choice next rows)
    → All (λ it. is_zero (coef_at choice.column it) ≡ true → Meets point it.row) rows × All (λ pair. Meets point (combined_at choice.column rows pair)) (pairs_for choice rows)
unfolding next_rows rows_without
parts_met point choice next rows all =
    let P : Numbered → Type 0 = λ it. Meets point it.row in
    let free : Numbered → Bool = λ it. is_zero (coef_at choice.column it) in
    let made = map (combined_at choice.column rows) (pairs_for choice rows) in
    let both = All-append_back P (filter free rows) (numbered_from next made) all in
    (All-filter_back free P rows both.0, All-map_back (combined_at choice.column rows) (Meets point) (pairs_for choice rows) (All-numbered_back (Meets point) next made both.1))

room_for : (column width : ℕ) (pair : Option Pair) (point : RatPoint) (rows : List Numbered) → HaveWidth width rows → column < length point.nums → pos 0 <ℤ point.den
    → IsPairChoice column rows pair → IsOppositeChoice rows pair
    → All (λ it. Meets point (combined_at column rows it)) (pairs_by column pair rows) → HasRoom column (cleared column point) rows
room_for column width None point rows widths inside positive is opposite all = room_from_all column width point rows widths inside positive all
room_for column width (Some pair) point rows widths inside positive is opposite all = room_from_pair column width point rows pair widths inside positive is opposite all

width_of_placed : (width : ℕ) (gone : Eliminated) (point : RatPoint) → length point.nums ≡ width → length (placed gone point).nums ≡ width
unfolding placed
width_of_placed width gone point wide =
    length-placed_by gone.column (taken (bounds_at gone (cleared gone.column point))) (cleared gone.column point) ∙ length-set point.nums gone.column (pos 0) ∙ wide

-- one stage back
step_back : (width next : ℕ) (choice : Choice) (rows : List Numbered) (point : RatPoint) → HaveWidth width rows → IsChoice width rows choice → IsOppositeChoice rows choice.pair
    → IsProperPoint width point → MeetsRows point (next_rows choice next rows)
    → MeetsRows (placed (gone_with choice.column rows) point) rows × IsProperPoint width (placed (gone_with choice.column rows) point)
step_back width next choice rows point widths is opposite proper all =
    let parts = parts_met point choice next rows all in
    let inside : choice.column < length point.nums = rw proper.0 is.inside in
    let room = room_for choice.column width choice.pair point rows widths inside proper.1 is.pair opposite parts.1 in
    let filled = fills choice.column point rows inside proper.1 room parts.0 in
    (filled.0, (width_of_placed width (gone_with choice.column rows) point proper.0, filled.1))

-- what a point owes to a stage before it is tidied
stage_met : (stage : Stage) (point : RatPoint) → pos 0 <ℤ point.den → contradiction_in stage.next stage.rows ≡ None → MeetsRows point (tidied_rows stage)
    → All (λ it. Meets point (rounded it.row)) stage.rows
stage_met stage point positive unrefuted all =
    meets_all_rounded point stage.next stage.rows (meets_untidied point (rounded_rows stage.next stage.rows) positive unrefuted all)

trail_is : (choice : Choice) (earlier stage : Stage) → stage ≡ stage_after choice earlier
    → stage.trail ≡ earlier.trail ++ gone_with choice.column (tidied_rows earlier) ∷ []
unfolding without_column
trail_is choice earlier stage is = ap (λ s. s.trail) is

point_from-push : (trail : List Eliminated) (gone : Eliminated) (point : RatPoint) → point_from (trail ++ gone ∷ []) point ≡ point_from trail (placed gone point)
point_from-push [] gone point = refl
point_from-push (first ∷ trail) gone point = ap (placed first) (point_from-push trail gone point)

pub reached_width : (kept : Option ℕ) (width : ℕ) (given : List Numbered) → HaveWidth width given → (s : ℕ) (stage : Stage)
    → IsReached (free_columns kept width) given s stage → HaveWidth width stage.rows
reached_width kept width given widths zero stage h =
    let P : Stage → Type 0 = λ stage. HaveWidth width stage.rows in
    subst P (sym h.1) widths
reached_width kept width given widths (suc s) stage h =
    let earlier : Stage = h.0 in
    let before = reached_width kept width given widths s earlier h.1 in
    let follows : Follows (free_columns kept width) earlier stage = h.2 in
    let tidy : List Numbered = tidied_rows earlier in
    let wide : HaveWidth width tidy = HaveWidth-tidied width earlier.next earlier.rows before in
    let is : IsChoice width tidy follows.choice = choice-is_choice kept width tidy follows.choice follows.chooses.chosen in
    let P : List Numbered → Type 0 = HaveWidth width in
    subst P (sym (rows_is follows.choice earlier stage follows.next))
    (HaveWidth-next_rows width follows.choice (tidied_stage earlier).next tidy wide (pairs_for-are_pairs width tidy follows.choice is))

-- all stages back
pub stages_back : (kept : Option ℕ) (width : ℕ) (given : List Numbered) → HaveWidth width given → (s : ℕ) (stage : Stage) → IsReached (free_columns kept width) given s stage
    → (point : RatPoint) → IsProperPoint width point → contradiction_in stage.next stage.rows ≡ None → MeetsRows point (tidied_rows stage)
    → All (λ it. Meets (point_from stage.trail point) (rounded it.row)) given × IsProperPoint width (point_from stage.trail point)
stages_back kept width given widths zero stage h point proper unrefuted all =
    let P : Stage → Type 0 = λ stage. contradiction_in stage.next stage.rows ≡ None → MeetsRows point (tidied_rows stage)
    → All (λ it. Meets (point_from stage.trail point) (rounded it.row)) given × IsProperPoint width (point_from stage.trail point) in
    subst P (sym h.1) (λ fine met. (stage_met (first_stage given) point proper.1 fine met, proper)) unrefuted all
stages_back kept width given widths (suc s) stage h point proper unrefuted all =
    let earlier : Stage = h.0 in
    let follows : Follows (free_columns kept width) earlier stage = h.2 in
    let choice : Choice = follows.choice in
    let tidy : List Numbered = tidied_rows earlier in
    let wide : HaveWidth width tidy = HaveWidth-tidied width earlier.next earlier.rows (reached_width kept width given widths s earlier h.1) in
    let is : IsChoice width tidy choice = choice-is_choice kept width tidy choice follows.chooses.chosen in
    let met : MeetsRows point stage.rows = meets_all point stage.rows proper.1 (stage_met stage point proper.1 unrefuted all) in
    let next : MeetsRows point (rows_after choice earlier) = subst (MeetsRows point) (rows_is choice earlier stage follows.next) met in
    let gone : Eliminated = gone_with choice.column tidy in
    let back = step_back width (tidied_stage earlier).next choice tidy point wide is (choice_of-opposite (free_columns kept width) tidy choice follows.chooses.chosen) proper next in
    let before = stages_back kept width given widths s earlier h.1 (placed gone point) back.1 follows.chooses.unrefuted back.0 in
    let same : point_from stage.trail point ≡ point_from earlier.trail (placed gone point) =
    ap (λ trail. point_from trail point) (trail_is choice earlier stage follows.next) ∙ point_from-push earlier.trail gone point in
    let P : RatPoint → Type 0 = λ p. All (λ it. Meets p (rounded it.row)) given × IsProperPoint width p in
    subst P (sym same) before
