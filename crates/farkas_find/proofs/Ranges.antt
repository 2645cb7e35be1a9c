-- The rows that a call leaves have the width of the given rows, entries in range, and a column less where one was dropped.
use Rattle.std.proofs.Common.{◌≡◌, ℕ, zero, suc, ◌+◌, ◌<◌, ◌∙◌, arith, sym, subst, List, [], ◌∷◌, length, map, get_or, pos, Option, IfOk, Result, Ok, Err}
use Rattle.std.specs.List.{All}
use Rattle.std.proofs.lemmas.List.Elements.{All-nil, All-map, All-head, All-weaker}
use Rattle.az_lin.specs.Affine.{Affine}
use Rattle.az_lin.specs.Combination.{HasWideEntries}
use Rattle.az_lin.specs.CommonDivisor.{gcd_of_all}
use Rattle.az_lin.proofs.WideSums.{HasWideEntries-quotient}
use Rattle.az_lin.proofs.Lists.{All-map_same}
use Rattle.farkas_find.specs.declared.numbered.Numbered.{Numbered}
use Rattle.farkas_find.specs.declared.choice.Pair.{Pair}
use Rattle.farkas_find.specs.declared.choice.Choice.{Choice}
use Rattle.farkas_find.specs.declared.trail.Stage.{Stage}
use Rattle.farkas_find.specs.declared.wide.WideRow.{WideRow}
use Rattle.farkas_find.specs.declared.left.Left.{Left}
use Rattle.farkas_find.specs.declared.left.Left.TheVariants.{Contradiction, Rows}
use Rattle.farkas_find.specs.declared.fault.FindFault.{FindFault}
use Rattle.farkas_find.specs.Rows.{affine_of, HasWideRow, HaveOneWidth}
use Rattle.farkas_find.specs.Tidying.{row_at, rounding_steps, tidied}
use Rattle.farkas_find.specs.Combining.{HaveWidth, IsPair, Fits, plus_weight, minus_weight, sum_without, combined}
use Rattle.farkas_find.specs.Choosing.{free_columns}
use Rattle.farkas_find.specs.Stages.{given_rows, first_stage, tidied_rows, pairs_for, next_rows, rows_after, StaysWide, Follows, IsReached}
use Rattle.farkas_find.specs.Answers.{TidyAnswers, DropAnswers, RangeAnswers, choice_in}
use Rattle.farkas_find.specs.Remaining.{HaveColumns, KeepsWidth, KeepsOneWidth, KeepsRange, Lacks}
use Rattle.farkas_find.proofs.Keeping.{KeptByRounding, kept_by_rounded, Every, Every-tidied, Every-next_rows, Every-without, Every-given}
use Rattle.farkas_find.proofs.Widths.{HasLength, HaveWidth-tidied, HaveWidth-next_rows}
use Rattle.farkas_find.proofs.Paired.{pairs_for-are_pairs}
use Rattle.farkas_find.proofs.Chosen.{choice-is_choice, choice_in-is_choice}
use Rattle.farkas_find.proofs.Gone.{IsGone-chosen}
use Rattle.farkas_find.proofs.Logged.{sum_wide}
use Rattle.farkas_find.proofs.Sound.{above_one, handed}
use Rattle.farkas_find.proofs.Staged.{rows_is}

wide-kept : KeptByRounding HasWideEntries
wide-kept row above wide = HasWideEntries-quotient row.coefs row.konst (pos (gcd_of_all row.coefs)) (above_one (gcd_of_all row.coefs) above) wide

wide-tidied : (next : ℕ) (rows : List Numbered) → Every HasWideEntries rows → Every HasWideEntries (tidied next rows)
wide-tidied next rows all = Every-tidied HasWideEntries wide-kept next rows all

wide-combined : (column : ℕ) (plus minus : Numbered) → Fits column plus minus → HasWideEntries (combined column plus minus)
unfolding combined sum_without Fits
wide-combined column plus minus fits =
    kept_by_rounded HasWideEntries wide-kept (sum_without column plus minus)
    (sum_wide (plus_weight column plus minus) plus.row (minus_weight column plus minus) minus.row fits)

wide-next_rows : (choice : Choice) (next : ℕ) (rows : List Numbered) → StaysWide choice rows → Every HasWideEntries rows → Every HasWideEntries (next_rows choice next rows)
wide-next_rows choice next rows wide all =
    Every-next_rows HasWideEntries choice next rows (Every-without HasWideEntries choice.column rows all)
    (λ k d inside.
    let pair : Pair = get_or (pairs_for choice rows) k d in
    wide-combined choice.column (row_at rows pair.plus) (row_at rows pair.minus) (wide k d inside))

-- each stage that is reached
reached-keeps : (kept : Option ℕ) (width : ℕ) (given : List Numbered) → HaveWidth width given → Every HasWideEntries given → (s : ℕ) (stage : Stage)
    → IsReached (free_columns kept width) given s stage → HaveWidth width stage.rows × Every HasWideEntries stage.rows
reached-keeps kept width given widths all zero stage h =
    let P : Stage → Type 0 = λ stage. HaveWidth width stage.rows × Every HasWideEntries stage.rows in
    subst P (sym h.1) (widths, all)
reached-keeps kept width given widths all (suc s) stage h =
    let earlier : Stage = h.0 in
    let before = reached-keeps kept width given widths all s earlier h.1 in
    let follows : Follows (free_columns kept width) earlier stage = h.2 in
    let choice : Choice = follows.choice in
    let tidy : List Numbered = tidied_rows earlier in
    let wide : HaveWidth width tidy = HaveWidth-tidied width earlier.next earlier.rows before.0 in
    let pairs : All (IsPair choice.column tidy) (pairs_for choice tidy) = pairs_for-are_pairs width tidy choice (choice-is_choice kept width tidy choice follows.chooses.chosen) in
    let next : ℕ = earlier.next + length (rounding_steps earlier.rows) in
    let P : List Numbered → Type 0 = λ rows. HaveWidth width rows × Every HasWideEntries rows in
    subst P (sym (rows_is choice earlier stage follows.next)) (
      HaveWidth-next_rows width choice next tidy wide pairs,
      wide-next_rows choice next tidy follows.wide (wide-tidied earlier.next earlier.rows before.1),
    )

-- what is said of the rows as they are handed out
as_handed : (Q : Affine → Type 0) (left : List WideRow) → All Q (map affine_of left) → All (λ row. Q (affine_of row)) left
as_handed Q left all = (All-map_same Q (λ row. Q (affine_of row)) affine_of left (λ row. (λ q. q, λ q. q))).0 all

pub ok_weaker : (result : Result Left FindFault) (P Q : Left → Type 0) → ((left : Left) → P left → Q left) → IfOk result P → IfOk result Q
ok_weaker (Ok left) P Q weaker h = weaker left h
ok_weaker (Err fault) P Q weaker h = tt

pub one_of_columns : (width : ℕ) (left : Left) → KeepsWidth width left → KeepsOneWidth left
one_of_columns width Contradiction h = tt
one_of_columns width (Rows left) h = λ k d here. λ j e there. h k d here ∙ sym (h j e there)

-- rows that have one width have the width of one of them
pub by_width : (P : Type 0) (rows : List WideRow) → HaveOneWidth rows → ((width : ℕ) → HaveColumns width rows → P) → P
by_width P [] one then = then 0 (All-nil (λ row. length row.coefs ≡ 0))
by_width P (row ∷ rows) one then =
    let Same : WideRow → Type 0 = λ first. All (λ other. length first.coefs ≡ length other.coefs) (row ∷ rows) in
    let first : Same row = All-head Same row rows one in
    then (length row.coefs) (All-weaker (λ other. length row.coefs ≡ length other.coefs) (λ other. length other.coefs ≡ length row.coefs) (λ other is. sym is) (row ∷ rows) first)

columns_given : (width : ℕ) (rows : List WideRow) → HaveColumns width rows → HaveWidth width (given_rows (map affine_of rows))
columns_given width rows all = Every-given (HasLength width) (map affine_of rows) (All-map (HasLength width) affine_of rows all)

range_given : (rows : List WideRow) → All HasWideRow rows → Every HasWideEntries (given_rows (map affine_of rows))
range_given rows all = Every-given HasWideEntries (map affine_of rows) (All-map HasWideEntries affine_of rows all)

pub tidy-keeps_width : (width : ℕ) (rows : List WideRow) (result : Result Left FindFault) → TidyAnswers (given_rows (map affine_of rows)) result → HaveColumns width rows
    → IfOk result (KeepsWidth width)
tidy-keeps_width width rows (Ok Contradiction) h all = tt
tidy-keeps_width width rows (Ok (Rows left)) h all =
    let given : List Numbered = given_rows (map affine_of rows) in
    as_handed (HasLength width) left (handed (HasLength width) (tidied (length given) given) left (HaveWidth-tidied width (length given) given (columns_given width rows all)) h.1.1)
tidy-keeps_width width rows (Err fault) h all = tt

pub tidy-keeps_range : (rows : List WideRow) (result : Result Left FindFault) → TidyAnswers (given_rows (map affine_of rows)) result → All HasWideRow rows → IfOk result KeepsRange
tidy-keeps_range rows (Ok Contradiction) h all = tt
tidy-keeps_range rows (Ok (Rows left)) h all =
    let given : List Numbered = given_rows (map affine_of rows) in
    as_handed HasWideEntries left (handed HasWideEntries (tidied (length given) given) left (wide-tidied (length given) given (range_given rows all)) h.1.1)
tidy-keeps_range rows (Err fault) h all = tt

pub drop-keeps_width : (width column : ℕ) (rows : List WideRow) (result : Result Left FindFault) → column < width → DropAnswers column (given_rows (map affine_of rows)) result → HaveColumns width rows
    → IfOk result (KeepsWidth width)
drop-keeps_width width column rows (Ok Contradiction) inside h all = tt
drop-keeps_width width column rows (Ok (Rows left)) inside h all =
    let given : List Numbered = given_rows (map affine_of rows) in
    let widths : HaveWidth width given = columns_given width rows all in
    let tidy : List Numbered = tidied_rows (first_stage given) in
    let choice : Choice = choice_in column tidy in
    as_handed (HasLength width) left
    (handed (HasLength width) (rows_after choice (first_stage given)) left
    (HaveWidth-next_rows width choice (length given + length (rounding_steps given)) tidy (HaveWidth-tidied width (length given) given widths)
    (pairs_for-are_pairs width tidy choice (choice_in-is_choice width column tidy inside)))
    h.1.rows)
drop-keeps_width width column rows (Err fault) inside h all = tt

-- two widths at once, where there is no row
no_rows : (width other wanted : ℕ) → (width ≡ other → ⊥) → (left : Left) → KeepsWidth width left → KeepsWidth other left → KeepsWidth wanted left
no_rows width other wanted apart Contradiction p q = tt
no_rows width other wanted apart (Rows left) p q = λ k d here. absurd (apart (sym (p k d here) ∙ q k d here))

both_ok : (result : Result Left FindFault) (P Q R : Left → Type 0) → ((left : Left) → P left → Q left → R left) → IfOk result P → IfOk result Q → IfOk result R
both_ok (Ok left) P Q R and p q = and left p q
both_ok (Err fault) P Q R and p q = tt

pub drop-keeps_any : (width wanted column : ℕ) (rows : List WideRow) (result : Result Left FindFault) → column < width → DropAnswers column (given_rows (map affine_of rows)) result
    → HaveColumns width rows → HaveColumns wanted rows → IfOk result (KeepsWidth wanted)
drop-keeps_any width wanted column [] result inside h all wide =
    both_ok result (KeepsWidth width) (KeepsWidth (suc width)) (KeepsWidth wanted) (no_rows width (suc width) wanted (λ same. omega arith))
    (drop-keeps_width width column [] result inside h all)
    (drop-keeps_width (suc width) column [] result (omega arith) h (All-nil (λ row. length row.coefs ≡ suc width)))
drop-keeps_any width wanted column (row ∷ rows) result inside h all wide =
    let same : wanted ≡ width = sym (All-head (λ row. length row.coefs ≡ wanted) row rows wide) ∙ All-head (λ row. length row.coefs ≡ width) row rows all in
    drop-keeps_width wanted column (row ∷ rows) result (omega (arith, same, inside)) h wide

pub drop-keeps_range : (column : ℕ) (rows : List WideRow) (result : Result Left FindFault) → DropAnswers column (given_rows (map affine_of rows)) result → All HasWideRow rows → IfOk result KeepsRange
drop-keeps_range column rows (Ok Contradiction) h all = tt
drop-keeps_range column rows (Ok (Rows left)) h all =
    let given : List Numbered = given_rows (map affine_of rows) in
    let tidy : List Numbered = tidied_rows (first_stage given) in
    let choice : Choice = choice_in column tidy in
    as_handed HasWideEntries left
    (handed HasWideEntries (rows_after choice (first_stage given)) left
    (wide-next_rows choice (length given + length (rounding_steps given)) tidy h.1.wide (wide-tidied (length given) given (range_given rows all)))
    h.1.rows)
drop-keeps_range column rows (Err fault) h all = tt

-- the dropped column is gone
pub drop-lacks : (width column : ℕ) (rows : List WideRow) (result : Result Left FindFault) → column < width → DropAnswers column (given_rows (map affine_of rows)) result → HaveColumns width rows
    → IfOk result (Lacks column)
unfolding choice_in
drop-lacks width column rows (Ok Contradiction) inside h all = tt
drop-lacks width column rows (Ok (Rows left)) inside h all =
    let given : List Numbered = given_rows (map affine_of rows) in
    let tidy : List Numbered = tidied_rows (first_stage given) in
    let choice : Choice = choice_in column tidy in
    let Gone : Affine → Type 0 = λ row. get_or row.coefs column (pos 0) ≡ pos 0 in
    as_handed Gone left
    (handed Gone (rows_after choice (first_stage given)) left
    (IsGone-chosen width choice (length given + length (rounding_steps given)) tidy (HaveWidth-tidied width (length given) given (columns_given width rows all))
    (pairs_for-are_pairs width tidy choice (choice_in-is_choice width column tidy inside)))
    h.1.rows)
drop-lacks width column rows (Err fault) inside h all = tt

pub range-keeps : (kept : Option ℕ) (width : ℕ) (rows : List Affine) (result : Result Left FindFault) → RangeAnswers (free_columns kept width) (given_rows rows) result
    → HaveWidth width (given_rows rows) → All HasWideEntries rows → IfOk result (λ left. KeepsWidth width left × KeepsRange left)
range-keeps kept width rows (Ok Contradiction) h widths wide = (tt, tt)
range-keeps kept width rows (Ok (Rows left)) h widths wide =
    let last : Stage = h.1 in
    let before = reached-keeps kept width (given_rows rows) widths (Every-given HasWideEntries rows wide) h.0 last h.2 in (
      as_handed (HasLength width) left (handed (HasLength width) (tidied_rows last) left (HaveWidth-tidied width last.next last.rows before.0) h.3.2),
      as_handed HasWideEntries left (handed HasWideEntries (tidied_rows last) left (wide-tidied last.next last.rows before.1) h.3.2),
    )
range-keeps kept width rows (Err fault) h widths wide = tt
