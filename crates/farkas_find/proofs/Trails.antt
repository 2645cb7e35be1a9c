-- What the stages leave behind: columns of the system, with rows that have them, one for each stage.
use Rattle.std.proofs.Common.{◌≡◌, ℕ, zero, suc, ◌<◌, ◌∙◌, sym, subst, ap, arith, add-one, true, not, Option, List, [], ◌∷◌, ◌++◌, length, get_or, All, ℤ, unsigned_abs}
use Rattle.std.proofs.Common.{length-append}
use Rattle.std.proofs.lemmas.Int.{ints}
use Rattle.std.proofs.lemmas.List.Elements.{All-nil, All-push, All-filter, filter_passes}
use Rattle.farkas_find.specs.declared.numbered.Numbered.{Numbered}
use Rattle.farkas_find.specs.declared.choice.Choice.{Choice}
use Rattle.farkas_find.specs.declared.trail.Stage.{Stage}
use Rattle.farkas_find.specs.declared.trail.Eliminated.{Eliminated}
use Rattle.farkas_find.specs.Tidying.{coef_at, is_zero}
use Rattle.farkas_find.specs.Combining.{HaveWidth}
use Rattle.farkas_find.specs.Choosing.{free_columns}
use Rattle.farkas_find.specs.Stages.{HasFew, tidied_rows, rows_with, without_column, stage_after, IsReached}
use Rattle.farkas_find.specs.Inner.Nexts.{IsChoice}
use Rattle.farkas_find.specs.BackSubstitution.{IsInside}
use Rattle.farkas_find.proofs.Chosen.{choice-is_choice}
use Rattle.farkas_find.proofs.Widths.{HaveWidth-tidied}
use Rattle.farkas_find.proofs.Staged.{Stands, stands_first, stands_next}

abbrev pub gone_by : Choice → Stage → Eliminated
gone_by choice stage = record { column = choice.column; rows = rows_with choice.column (tidied_rows stage) }

pub trail_is : (choice : Choice) (stage next : Stage) → next ≡ stage_after choice stage → next.trail ≡ stage.trail ++ gone_by choice stage ∷ []
unfolding without_column
trail_is choice stage next is = ap (λ s. s.trail) is

pub rows_with-width : (width column : ℕ) (rows : List Numbered) → HaveWidth width rows → HaveWidth width (rows_with column rows)
unfolding rows_with
rows_with-width width column rows widths = All-filter (λ it. not (is_zero (coef_at column it))) (λ it. length it.row.coefs ≡ width) rows widths

above_zero : (z : ℤ) → not (is_zero z) ≡ true → 0 < unsigned_abs z
above_zero z h = grind (arith, ints)

pub rows_with-nonzero : (column : ℕ) (rows : List Numbered) → All (λ it. 0 < unsigned_abs (coef_at column it)) (rows_with column rows)
unfolding rows_with
rows_with-nonzero column rows k d inside =
    above_zero (coef_at column (get_or (rows_with column rows) k d)) (filter_passes (λ it. not (is_zero (coef_at column it))) rows k d inside)

-- the stages reached, and what they left
pub record StandsInside (kept : Option ℕ) (width : ℕ) (given : List Numbered) (s : ℕ) (stage : Stage) : Type 0 where
  pub stands : Stands kept width given s stage
  pub trail : All (IsInside width) stage.trail
  pub count : length stage.trail ≡ s

pub reached_inside : (kept : Option ℕ) (width : ℕ) (given : List Numbered) (s : ℕ) (stage : Stage) → HaveWidth width given → HasFew given
    → IsReached (free_columns kept width) given s stage → StandsInside kept width given s stage
reached_inside kept width given zero stage widths few reached =
    let P : Stage → Type 0 = λ at. All (IsInside width) at.trail in
    record {
      stands = stands_first kept width given stage reached.1 widths few;
      trail = subst P (sym reached.1) (All-nil (IsInside width));
      count = ap (λ at. length at.trail) reached.1;
    }
reached_inside kept width given (suc s) stage widths few reached =
    let earlier : Stage = reached.0 in
    let before = reached_inside kept width given s earlier widths few reached.1 in
    let follows = reached.2 in
    let choice : Choice = follows.choice in
    let rows : List Numbered = tidied_rows earlier in
    let is_choice : IsChoice width rows choice = choice-is_choice kept width rows choice follows.chooses.chosen in
    let wide : HaveWidth width rows = HaveWidth-tidied width earlier.next earlier.rows before.stands.widths in
    let gone : Eliminated = gone_by choice earlier in
    let inside : IsInside width gone = record { column = is_choice.inside; rows = rows_with-width width choice.column rows wide } in
    let is : stage.trail ≡ earlier.trail ++ gone ∷ [] = trail_is choice earlier stage follows.next in
    let P : List Eliminated → Type 0 = All (IsInside width) in
    let Q : ℕ → Type 0 = λ n. Stands kept width given n stage in
    record {
      stands = subst Q (add-one s) (stands_next kept width given s earlier stage before.stands follows);
      trail = subst P (sym is) (All-push (IsInside width) earlier.trail gone before.trail inside);
      count = ap (λ (t : List Eliminated). length t) is ∙ omega (arith, length-append earlier.trail (gone ∷ []), before.count);
    }
