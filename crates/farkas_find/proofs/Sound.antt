-- A point that meets every row of a stage meets every row of the next, and no row that it meets refutes the system.
use Rattle.std.proofs.Common.{◌≡◌, ℕ, zero, suc, ◌+◌, ◌<◌, refl, sym, ◌∙◌, subst, arith, true, List, [], ◌∷◌, length, map, get_or, ℤ, pos, ◌+ℤ◌, ◌≤ℤ◌, ◌<ℤ◌, Option, Some, None, nat_lt, int_lt, IfOk, IsSome, Result, Ok, Err}
use Rattle.std.specs.List.{All, list_all}
use Rattle.std.proofs.lemmas.Int.{ints}
use Rattle.std.proofs.lemmas.Bool.Decides.{nat_tests, Decides-int_eq}
use Rattle.std.proofs.lemmas.List.Elements.{All-map}
use Rattle.std.proofs.lemmas.List.Quantifiers.{position-Some}
use Rattle.az_lin.specs.Affine.{Affine, IsAtLeastZero, value_at, dot}
use Rattle.az_lin.specs.CommonDivisor.{gcd_of_all}
use Rattle.az_lin.proofs.DivisorLaws.{gcd_of_all-is_gcd}
use Rattle.az_lin.proofs.StepLaws.{value_at-combination, scaled_sum-nonneg, quotient-nonneg}
use Rattle.farkas_find.specs.declared.numbered.Numbered.{Numbered}
use Rattle.farkas_find.specs.declared.choice.Pair.{Pair}
use Rattle.farkas_find.specs.declared.choice.Choice.{Choice}
use Rattle.farkas_find.specs.declared.trail.Stage.{Stage}
use Rattle.farkas_find.specs.Tidying.{rounding_steps, row_at, is_zero, is_constant, is_refuting, rounded_rows, contradiction_in, tidied}
use Rattle.farkas_find.specs.Combining.{HaveWidth, IsPair, plus_weight, minus_weight, sum_without, combined}
use Rattle.farkas_find.specs.Choosing.{free_columns}
use Rattle.farkas_find.specs.Stages.{given_rows, first_stage, tidied_rows, pairs_for, next_rows, rows_after, Follows, IsReached}
use Rattle.farkas_find.proofs.Keeping.{KeptByRounding, kept_by_rounded, Every, Every-rounded_rows, Every-tidied, Every-next_rows, Every-without, Every-given}
use Rattle.farkas_find.specs.declared.wide.WideRow.{WideRow}
use Rattle.farkas_find.specs.declared.left.Left.{Left}
use Rattle.farkas_find.specs.declared.left.Left.TheVariants.{Contradiction, Rows}
use Rattle.farkas_find.specs.declared.fault.FindFault.{FindFault}
use Rattle.farkas_find.specs.Rows.{affine_of}
use Rattle.farkas_find.specs.Answers.{AreRows, HoldsIn, TidyAnswers, DropAnswers, RangeAnswers, choice_in}
use Rattle.farkas_find.proofs.Widths.{HaveWidth-tidied, HaveWidth-next_rows}
use Rattle.farkas_find.proofs.Paired.{pairs_for-are_pairs, left_of_and, right_of_and}
use Rattle.farkas_find.proofs.Chosen.{choice-is_choice, choice_in-is_choice}
use Rattle.farkas_find.proofs.Staged.{rows_is}

-- rounding loses nothing at whole numbers
pub above_one : (g : ℕ) → nat_lt 1 g ≡ true → pos 0 <ℤ pos g
above_one g above = grind (arith, ints, nat_tests)

pub holds-kept : (z : List ℤ) → KeptByRounding (IsAtLeastZero z)
holds-kept z row above holds =
    quotient-nonneg row (pos (gcd_of_all row.coefs)) z (above_one (gcd_of_all row.coefs) above) (gcd_of_all-is_gcd row.coefs).divides holds

-- the sum of rows that hold holds
holds-combined : (z : List ℤ) (column : ℕ) (plus minus : Numbered) → length plus.row.coefs ≡ length minus.row.coefs
    → IsAtLeastZero z plus.row → IsAtLeastZero z minus.row → IsAtLeastZero z (combined column plus minus)
unfolding combined sum_without plus_weight minus_weight
holds-combined z column plus minus same p m =
    let a : ℤ = plus_weight column plus minus in
    let b : ℤ = minus_weight column plus minus in
    let at_least : ℤ → Type 0 = λ value. pos 0 ≤ℤ value in
    kept_by_rounded (IsAtLeastZero z) (holds-kept z) (sum_without column plus minus)
    (subst at_least (sym (value_at-combination a plus.row b minus.row z same))
    (scaled_sum-nonneg a (value_at plus.row z) b (value_at minus.row z) (omega (arith, ints)) p (omega (arith, ints)) m))

pub holds-tidied : (z : List ℤ) (next : ℕ) (rows : List Numbered) → Every (IsAtLeastZero z) rows → Every (IsAtLeastZero z) (tidied next rows)
holds-tidied z next rows all = Every-tidied (IsAtLeastZero z) (holds-kept z) next rows all

pub holds-next_rows : (z : List ℤ) (width : ℕ) (choice : Choice) (next : ℕ) (rows : List Numbered) → HaveWidth width rows → All (IsPair choice.column rows) (pairs_for choice rows)
    → Every (IsAtLeastZero z) rows → Every (IsAtLeastZero z) (next_rows choice next rows)
holds-next_rows z width choice next rows widths pairs all =
    let nothing : Numbered = record { row = record { coefs = []; konst = pos 0 }; number = 0 } in
    Every-next_rows (IsAtLeastZero z) choice next rows (Every-without (IsAtLeastZero z) choice.column rows all)
    (λ k d inside.
    let pair : Pair = get_or (pairs_for choice rows) k d in
    let is : IsPair choice.column rows pair = pairs k d inside in
    holds-combined z choice.column (row_at rows pair.plus) (row_at rows pair.minus)
    (widths pair.plus nothing is.plus_inside ∙ sym (widths pair.minus nothing is.minus_inside))
    (all pair.plus nothing is.plus_inside) (all pair.minus nothing is.minus_inside))

-- a row without coefficients is its constant
dot-zeros : (coefs z : List ℤ) → list_all is_zero coefs ≡ true → dot coefs z ≡ pos 0
dot-zeros [] z zeros = refl
dot-zeros (x ∷ xs) [] zeros = refl
dot-zeros (x ∷ xs) (y ∷ ys) zeros =
    let here : x ≡ pos 0 = (Decides-int_eq x (pos 0)).0 (left_of_and (is_zero x) (list_all is_zero xs) zeros) in
    let rest : dot xs ys ≡ pos 0 = dot-zeros xs ys (right_of_and (is_zero x) (list_all is_zero xs) zeros) in
    rw (here, rest) (omega (arith, ints))

negative_below : (k : ℤ) → int_lt k (pos 0) ≡ true → pos 0 ≤ℤ (pos 0 +ℤ k) → ⊥
negative_below k below at_least = grind (arith, ints)

not_refuting : (z : List ℤ) (it : Numbered) → IsAtLeastZero z it.row → is_refuting it ≡ true → ⊥
unfolding is_refuting is_constant
not_refuting z it holds refuting =
    let zeros : dot it.row.coefs z ≡ pos 0 = dot-zeros it.row.coefs z (left_of_and (list_all is_zero it.row.coefs) (int_lt it.row.konst (pos 0)) refuting) in
    let below : int_lt it.row.konst (pos 0) ≡ true = right_of_and (list_all is_zero it.row.coefs) (int_lt it.row.konst (pos 0)) refuting in
    let at_least : pos 0 ≤ℤ (pos 0 +ℤ it.row.konst) = subst (λ (n : ℤ). pos 0 ≤ℤ (n +ℤ it.row.konst)) zeros holds in
    negative_below it.row.konst below at_least

pub unrefuted : (z : List ℤ) (next place : ℕ) (rows : List Numbered) → Every (IsAtLeastZero z) rows → contradiction_in next rows ≡ Some place → ⊥
unrefuted z next place rows all found =
    let nothing : Numbered = record { row = record { coefs = []; konst = pos 0 }; number = 0 } in
    let there = position-Some is_refuting (rounded_rows next rows) place nothing found in
    let holds = Every-rounded_rows (IsAtLeastZero z) (holds-kept z) next rows all in
    not_refuting z (get_or (rounded_rows next rows) place nothing) (holds place nothing there.0) there.1

-- what is handed out
pub handed : (Q : Affine → Type 0) (rows : List Numbered) (left : List WideRow) → Every Q rows → AreRows rows left → All Q (map affine_of left)
handed Q rows left all are =
    let P : List Affine → Type 0 = All Q in
    subst P (sym are) (All-map Q (λ (it : Numbered). it.row) rows all)

refuted : (z : List ℤ) (next : ℕ) (rows : List Numbered) → Every (IsAtLeastZero z) rows → IsSome (contradiction_in next rows) → ⊥
refuted z next rows all some =
    (elim (contradiction_in next rows) as (λ r. contradiction_in next rows ≡ r → IsSome r → ⊥) [ None ↦ λ e none. absurd (cc) | Some place ↦ λ e there. unrefuted z next place rows all e ]) refl some

pub tidy-sound : (z : List ℤ) (rows : List Affine) (result : Result Left FindFault) → TidyAnswers (given_rows rows) result
    → IfOk result (λ left. All (IsAtLeastZero z) rows → HoldsIn z left)
tidy-sound z rows (Ok Contradiction) h = λ all. refuted z (length (given_rows rows)) (given_rows rows) (Every-given (IsAtLeastZero z) rows all) h.1
tidy-sound z rows (Ok (Rows left)) h =
    λ all. handed (IsAtLeastZero z) (tidied (length (given_rows rows)) (given_rows rows)) left
    (holds-tidied z (length (given_rows rows)) (given_rows rows) (Every-given (IsAtLeastZero z) rows all)) h.1.1
tidy-sound z rows (Err fault) h = tt

pub drop-sound : (z : List ℤ) (width column : ℕ) (rows : List Affine) (result : Result Left FindFault) → column < width → HaveWidth width (given_rows rows)
    → DropAnswers column (given_rows rows) result → IfOk result (λ left. All (IsAtLeastZero z) rows → HoldsIn z left)
drop-sound z width column rows (Ok Contradiction) inside widths h = λ all. refuted z (length (given_rows rows)) (given_rows rows) (Every-given (IsAtLeastZero z) rows all) h.1
drop-sound z width column rows (Ok (Rows left)) inside widths h =
    λ all.
    let given : List Numbered = given_rows rows in
    let stage : Stage = first_stage given in
    let tidy : List Numbered = tidied_rows stage in
    let choice : Choice = choice_in column tidy in
    let pairs : All (IsPair choice.column tidy) (pairs_for choice tidy) = pairs_for-are_pairs width tidy choice (choice_in-is_choice width column tidy inside) in
    handed (IsAtLeastZero z) (rows_after choice stage) left
    (holds-next_rows z width choice (length given + length (rounding_steps given)) tidy (HaveWidth-tidied width (length given) given widths) pairs
    (holds-tidied z (length given) given (Every-given (IsAtLeastZero z) rows all)))
    h.1.rows
drop-sound z width column rows (Err fault) inside widths h = tt

pub reached-holds : (z : List ℤ) (kept : Option ℕ) (width : ℕ) (given : List Numbered) → HaveWidth width given → Every (IsAtLeastZero z) given → (s : ℕ) (stage : Stage)
    → IsReached (free_columns kept width) given s stage → HaveWidth width stage.rows × Every (IsAtLeastZero z) stage.rows
reached-holds z kept width given widths all zero stage h =
    let P : Stage → Type 0 = λ stage. HaveWidth width stage.rows × Every (IsAtLeastZero z) stage.rows in
    subst P (sym h.1) (widths, all)
reached-holds z kept width given widths all (suc s) stage h =
    let earlier : Stage = h.0 in
    let before = reached-holds z kept width given widths all s earlier h.1 in
    let follows : Follows (free_columns kept width) earlier stage = h.2 in
    let choice : Choice = follows.choice in
    let tidy : List Numbered = tidied_rows earlier in
    let wide : HaveWidth width tidy = HaveWidth-tidied width earlier.next earlier.rows before.0 in
    let pairs : All (IsPair choice.column tidy) (pairs_for choice tidy) = pairs_for-are_pairs width tidy choice (choice-is_choice kept width tidy choice follows.chooses.chosen) in
    let next : ℕ = earlier.next + length (rounding_steps earlier.rows) in
    let P : List Numbered → Type 0 = λ rows. HaveWidth width rows × Every (IsAtLeastZero z) rows in
    subst P (sym (rows_is choice earlier stage follows.next)) (
      HaveWidth-next_rows width choice next tidy wide pairs,
      holds-next_rows z width choice next tidy wide pairs (holds-tidied z earlier.next earlier.rows before.1),
    )

pub range-sound : (z : List ℤ) (kept : Option ℕ) (width : ℕ) (rows : List Affine) (result : Result Left FindFault) → HaveWidth width (given_rows rows)
    → RangeAnswers (free_columns kept width) (given_rows rows) result → IfOk result (λ left. All (IsAtLeastZero z) rows → HoldsIn z left)
range-sound z kept width rows (Ok Contradiction) widths h =
    λ all.
    let last : Stage = h.1 in
    refuted z last.next last.rows (reached-holds z kept width (given_rows rows) widths (Every-given (IsAtLeastZero z) rows all) h.0 last h.2).1 h.3
range-sound z kept width rows (Ok (Rows left)) widths h =
    λ all.
    let last : Stage = h.1 in
    handed (IsAtLeastZero z) (tidied_rows last) left
    (holds-tidied z last.next last.rows (reached-holds z kept width (given_rows rows) widths (Every-given (IsAtLeastZero z) rows all) h.0 last h.2).1)
    h.3.2
range-sound z kept width rows (Err fault) widths h = tt
