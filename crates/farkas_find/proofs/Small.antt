-- Rows with small entries stay small for some stages.
use Rattle.std.proofs.Common.{◌≡◌, ℕ, zero, suc, ◌*◌, ◌/◌, ◌^◌, ◌<◌, ◌≤◌, ◌∙◌, sym, subst, refl, arith, true, List, [], ◌∷◌, length, get_or, map, All, ℤ, pos, unsigned_abs, ◌*ℤ◌, ◌<ℤ◌, nat_lt, Bool, cond, Option, add-one, count_by}
use Rattle.std.proofs.lemmas.Int.{ints, unsigned_abs-mul}
use Rattle.std.proofs.lemmas.Nat.{mul-le}
use Rattle.std.proofs.Math.Nat.{div-le_self}
use Rattle.std.proofs.lemmas.List.Elements.{All-nil, All-cons, All-head, All-tail, All-weaker, All-contains_itself}
use Rattle.std.specs.Int.{int_div_euclid}
use Rattle.std.specs.List.{AllZip}
use Rattle.az_lin.specs.Affine.{Affine}
use Rattle.az_lin.specs.Combination.{IsWideSum, scaled_sum, scaled_sums}
use Rattle.az_lin.specs.CommonDivisor.{gcd_of_all}
use Rattle.az_lin.proofs.Integers.{unsigned_abs-floor}
use Rattle.az_lin.proofs.Magnitude.{unsigned_abs-add}
use Rattle.farkas_find.specs.declared.numbered.Numbered.{Numbered}
use Rattle.farkas_find.specs.declared.choice.Pair.{Pair}
use Rattle.farkas_find.specs.declared.choice.Choice.{Choice}
use Rattle.farkas_find.specs.Tidying.{row_at, coef_at}
use Rattle.farkas_find.specs.Combining.{IsPair, HaveWidth, Fits, combined, sum_without, plus_weight, minus_weight, common_divisor}
use Rattle.std.proofs.lemmas.List.Sums.{sum_by-cons}
use Rattle.std.specs.List.{Contains}
use Rattle.farkas_find.specs.declared.trail.Stage.{Stage}
use Rattle.farkas_find.specs.Choosing.{free_columns, is_live}
use Rattle.farkas_find.specs.Stages.{pairs_for, next_rows, rows_after, StaysWide, HasFew, IsReached, Chooses, LeavesRangeAt, tidied_rows, tidied_stage}
use Rattle.farkas_find.specs.Inner.Nexts.{IsChoice}
use Rattle.farkas_find.proofs.Chosen.{choice-is_choice, choice_of-Some}
use Rattle.farkas_find.proofs.Gone.{IsGone-tidied}
use Rattle.farkas_find.proofs.Paired.{pairs_for-are_pairs}
use Rattle.farkas_find.proofs.Widths.{HaveWidth-tidied}
use Rattle.farkas_find.proofs.Staged.{Stands, stands_first, stands_next, rows_is, live_unless_gone, count_live}
use Rattle.farkas_find.proofs.Keeping.{KeptByRounding, Every, kept_by_rounded, Every-tidied, Every-next_rows, Every-without}

abbrev pub IsAtMost : ℕ → ℤ → Type 0
IsAtMost most z = unsigned_abs z ≤ most

pub record IsSmall (most : ℕ) (row : Affine) : Type 0 where
  pub coefficients : All (IsAtMost most) row.coefs
  pub constant : IsAtMost most row.konst

pub small-more : (most more : ℕ) (row : Affine) → most ≤ more → IsSmall most row → IsSmall more row
small-more most more row h small = record {
  coefficients = All-weaker (IsAtMost most) (IsAtMost more) (λ z (s : IsAtMost most z). let t : unsigned_abs z ≤ more = omega (arith, s, h) in t) row.coefs small.coefficients;
  constant = omega (arith, h, small.constant);
}

-- rounding makes nothing greater
divided_at_most : (most : ℕ) (d : ℤ) (zs : List ℤ) → pos 0 <ℤ d → All (IsAtMost most) zs → All (IsAtMost most) (map (λ coef. int_div_euclid coef d) zs)
divided_at_most most d [] positive small = All-nil (IsAtMost most)
divided_at_most most d (z ∷ zs) positive small =
    All-cons (IsAtMost most) (int_div_euclid z d) (map (λ coef. int_div_euclid coef d) zs)
    (omega (arith, unsigned_abs-floor z d positive, All-head (IsAtMost most) z zs small))
    (divided_at_most most d zs positive (All-tail (IsAtMost most) z zs small))

pub positive_divisor : (n : ℕ) → nat_lt 1 n ≡ true → pos 0 <ℤ pos n
positive_divisor zero h = cc
positive_divisor (suc n) h = omega (arith, ints)

pub small-kept : (most : ℕ) → KeptByRounding (IsSmall most)
small-kept most row above small =
    let positive : pos 0 <ℤ pos (gcd_of_all row.coefs) = positive_divisor (gcd_of_all row.coefs) above in
    record {
      coefficients = divided_at_most most (pos (gcd_of_all row.coefs)) row.coefs positive small.coefficients;
      constant = omega (arith, unsigned_abs-floor row.konst (pos (gcd_of_all row.coefs)) positive, small.constant);
    }

-- the sum of two small rows by small weights
at_most_product : (m : ℕ) (x : ℤ) (most : ℕ) → m ≤ most → unsigned_abs x ≤ most → unsigned_abs (pos m *ℤ x) ≤ most * most
at_most_product m x most p q = rw unsigned_abs-mul (mul-le m (unsigned_abs x) most most p q)

at_most_sum : (m : ℕ) (x : ℤ) (n : ℕ) (y : ℤ) (most : ℕ) → m ≤ most → unsigned_abs x ≤ most → n ≤ most → unsigned_abs y ≤ most
    → unsigned_abs (scaled_sum (pos m) x (pos n) y) ≤ 2 * (most * most)
at_most_sum m x n y most p q r s =
    let left = at_most_product m x most p q in
    let right = at_most_product n y most r s in
    omega (arith, left, right, unsigned_abs-add (pos m *ℤ x) (pos n *ℤ y))

wide_sum_of_small : (m : ℕ) (x : ℤ) (n : ℕ) (y : ℤ) (most : ℕ) → m ≤ most → unsigned_abs x ≤ most → n ≤ most → unsigned_abs y ≤ most
    → 2 * (most * most) < 2 ^ 127 → IsWideSum (pos m) x (pos n) y
wide_sum_of_small m x n y most p q r s few =
    let left = at_most_product m x most p q in
    let right = at_most_product n y most r s in
    let total = at_most_sum m x n y most p q r s in
    record { left = omega (arith, left, few); right = omega (arith, right, few); total = omega (arith, total, few) }

wide_sums_of_small : (m : ℕ) (xs : List ℤ) (n : ℕ) (ys : List ℤ) (most : ℕ) → length xs ≡ length ys → m ≤ most → All (IsAtMost most) xs → n ≤ most → All (IsAtMost most) ys
    → 2 * (most * most) < 2 ^ 127 → AllZip (λ x y. IsWideSum (pos m) x (pos n) y) xs ys
wide_sums_of_small m [] n [] most same p q r s few = tt
wide_sums_of_small m [] n (y ∷ ys) most same p q r s few = absurd (omega arith)
wide_sums_of_small m (x ∷ xs) n [] most same p q r s few = absurd (omega arith)
wide_sums_of_small m (x ∷ xs) n (y ∷ ys) most same p q r s few = (
  wide_sum_of_small m x n y most p (All-head (IsAtMost most) x xs q) r (All-head (IsAtMost most) y ys s) few,
  wide_sums_of_small m xs n ys most (omega arith) p (All-tail (IsAtMost most) x xs q) r (All-tail (IsAtMost most) y ys s) few,
)

sums_at_most : (m : ℕ) (xs : List ℤ) (n : ℕ) (ys : List ℤ) (most : ℕ) → m ≤ most → All (IsAtMost most) xs → n ≤ most → All (IsAtMost most) ys
    → All (IsAtMost (2 * (most * most))) (scaled_sums (pos m) xs (pos n) ys)
sums_at_most m [] n ys most p q r s = All-nil (IsAtMost (2 * (most * most)))
sums_at_most m (x ∷ xs) n [] most p q r s = All-nil (IsAtMost (2 * (most * most)))
sums_at_most m (x ∷ xs) n (y ∷ ys) most p q r s =
    All-cons (IsAtMost (2 * (most * most))) (scaled_sum (pos m) x (pos n) y) (scaled_sums (pos m) xs (pos n) ys)
    (at_most_sum m x n y most p (All-head (IsAtMost most) x xs q) r (All-head (IsAtMost most) y ys s))
    (sums_at_most m xs n ys most p (All-tail (IsAtMost most) x xs q) r (All-tail (IsAtMost most) y ys s))

pub entry_at_most : (most : ℕ) (zs : List ℤ) (i : ℕ) → All (IsAtMost most) zs → unsigned_abs (get_or zs i (pos 0)) ≤ most
entry_at_most most [] i small = omega arith
entry_at_most most (z ∷ zs) zero small = All-head (IsAtMost most) z zs small
entry_at_most most (z ∷ zs) (suc i) small = entry_at_most most zs i (All-tail (IsAtMost most) z zs small)

weight_at_most : (q g most : ℕ) → q ≤ most → q / g ≤ most
weight_at_most q g most h = omega (arith, div-le_self q g)

pub fits_small : (column most : ℕ) (plus minus : Numbered) → length plus.row.coefs ≡ length minus.row.coefs → IsSmall most plus.row → IsSmall most minus.row
    → 2 * (most * most) < 2 ^ 127 → Fits column plus minus
unfolding Fits plus_weight minus_weight
fits_small column most plus minus same p m few =
    let g = common_divisor column plus minus in
    let a = weight_at_most (unsigned_abs (coef_at column minus)) g most (entry_at_most most minus.row.coefs column m.coefficients) in
    let b = weight_at_most (unsigned_abs (coef_at column plus)) g most (entry_at_most most plus.row.coefs column p.coefficients) in
    record {
      coefficients = wide_sums_of_small (unsigned_abs (coef_at column minus) / g) plus.row.coefs (unsigned_abs (coef_at column plus) / g) minus.row.coefs most same a p.coefficients b m.coefficients few;
      constant = wide_sum_of_small (unsigned_abs (coef_at column minus) / g) plus.row.konst (unsigned_abs (coef_at column plus) / g) minus.row.konst most a p.constant b m.constant few;
    }

combined_small : (column most : ℕ) (plus minus : Numbered) → IsSmall most plus.row → IsSmall most minus.row → IsSmall (2 * (most * most)) (combined column plus minus)
unfolding combined sum_without plus_weight minus_weight
combined_small column most plus minus p m =
    let g = common_divisor column plus minus in
    let a = weight_at_most (unsigned_abs (coef_at column minus)) g most (entry_at_most most minus.row.coefs column m.coefficients) in
    let b = weight_at_most (unsigned_abs (coef_at column plus)) g most (entry_at_most most plus.row.coefs column p.coefficients) in
    let sum : IsSmall (2 * (most * most)) (sum_without column plus minus) = record {
      coefficients = sums_at_most (unsigned_abs (coef_at column minus) / g) plus.row.coefs (unsigned_abs (coef_at column plus) / g) minus.row.coefs most a p.coefficients b m.coefficients;
      constant = at_most_sum (unsigned_abs (coef_at column minus) / g) plus.row.konst (unsigned_abs (coef_at column plus) / g) minus.row.konst most a p.constant b m.constant;
    } in
    kept_by_rounded (IsSmall (2 * (most * most))) (small-kept (2 * (most * most))) (sum_without column plus minus) sum

pub stays_wide_small : (width most : ℕ) (choice : Choice) (rows : List Numbered) → HaveWidth width rows → All (IsPair choice.column rows) (pairs_for choice rows)
    → Every (IsSmall most) rows → 2 * (most * most) < 2 ^ 127 → StaysWide choice rows
stays_wide_small width most choice rows widths pairs small few k d inside =
    let nothing : Numbered = record { row = record { coefs = []; konst = pos 0 }; number = 0 } in
    let pair : Pair = get_or (pairs_for choice rows) k d in
    let is : IsPair choice.column rows pair = pairs k d inside in
    fits_small choice.column most (row_at rows pair.plus) (row_at rows pair.minus)
    (widths pair.plus nothing is.plus_inside ∙ sym (widths pair.minus nothing is.minus_inside))
    (small pair.plus nothing is.plus_inside) (small pair.minus nothing is.minus_inside) few

grows : (most : ℕ) → 0 < most → most ≤ 2 * (most * most)
grows zero h = absurd (omega arith)
grows (suc n) h = omega arith

pub next_small : (most : ℕ) (choice : Choice) (next : ℕ) (rows : List Numbered) → 0 < most → All (IsPair choice.column rows) (pairs_for choice rows)
    → Every (IsSmall most) rows → Every (IsSmall (2 * (most * most))) (next_rows choice next rows)
next_small most choice next rows positive pairs small =
    let nothing : Numbered = record { row = record { coefs = []; konst = pos 0 }; number = 0 } in
    let more : Every (IsSmall (2 * (most * most))) rows =
    All-weaker (λ it. IsSmall most it.row) (λ it. IsSmall (2 * (most * most)) it.row) (λ it s. small-more most (2 * (most * most)) it.row (grows most positive) s) rows small in
    Every-next_rows (IsSmall (2 * (most * most))) choice next rows (Every-without (IsSmall (2 * (most * most))) choice.column rows more)
    (λ k d inside.
    let pair : Pair = get_or (pairs_for choice rows) k d in
    let is : IsPair choice.column rows pair = pairs k d inside in
    combined_small choice.column most (row_at rows pair.plus) (row_at rows pair.minus) (small pair.plus nothing is.plus_inside) (small pair.minus nothing is.minus_inside))

-- the greatest magnitude in a stage, from 3 in the first
abbrev pub greatest_at : ℕ → ℕ
greatest_at zero = 3
greatest_at (suc s) = 2 * (greatest_at s * greatest_at s)

pub greatest_at-positive : (s : ℕ) → 0 < greatest_at s
greatest_at-positive zero = omega arith
greatest_at-positive (suc s) = let h = grows (greatest_at s) (greatest_at-positive s) in omega (arith, h, greatest_at-positive s)

pub greatest_at-wide : (s : ℕ) → s < 5 → 2 * (greatest_at s * greatest_at s) < 2 ^ 127
greatest_at-wide zero h = omega arith
greatest_at-wide (suc zero) h = omega arith
greatest_at-wide (suc (suc zero)) h = omega arith
greatest_at-wide (suc (suc (suc zero))) h = omega arith
greatest_at-wide (suc (suc (suc (suc zero)))) h = omega arith
greatest_at-wide (suc (suc (suc (suc (suc s))))) h = absurd (omega arith)

-- the rows of the stages
pub record StandsSmall (kept : Option ℕ) (width : ℕ) (given : List Numbered) (s : ℕ) (stage : Stage) : Type 0 where
  pub stands : Stands kept width given s stage
  pub small : Every (IsSmall (greatest_at s)) stage.rows

pub reached_small : (kept : Option ℕ) (width : ℕ) (given : List Numbered) (s : ℕ) (stage : Stage) → HaveWidth width given → HasFew given → Every (IsSmall 3) given
    → IsReached (free_columns kept width) given s stage → StandsSmall kept width given s stage
reached_small kept width given zero stage widths few small reached =
    let Q : Stage → Type 0 = λ at. Every (IsSmall 3) at.rows in
    record { stands = stands_first kept width given stage reached.1 widths few; small = subst Q (sym reached.1) small }
reached_small kept width given (suc s) stage widths few small reached =
    let earlier : Stage = reached.0 in
    let before = reached_small kept width given s earlier widths few small reached.1 in
    let follows = reached.2 in
    let choice : Choice = follows.choice in
    let rows : List Numbered = tidied_rows earlier in
    let tidy : Every (IsSmall (greatest_at s)) rows = Every-tidied (IsSmall (greatest_at s)) (small-kept (greatest_at s)) earlier.next earlier.rows before.small in
    let is_choice : IsChoice width rows choice = choice-is_choice kept width rows choice follows.chooses.chosen in
    let pairs : All (IsPair choice.column rows) (pairs_for choice rows) = pairs_for-are_pairs width rows choice is_choice in
    let next : Every (IsSmall (greatest_at (suc s))) (rows_after choice earlier) =
    next_small (greatest_at s) choice (tidied_stage earlier).next rows (greatest_at-positive s) pairs tidy in
    let P : List Numbered → Type 0 = Every (IsSmall (greatest_at (suc s))) in
    let Q : ℕ → Type 0 = λ n. Stands kept width given n stage in
    record {
      stands = subst Q (add-one s) (stands_next kept width given s earlier stage before.stands follows);
      small = subst P (sym (rows_is choice earlier stage follows.next)) next;
    }

-- a stage that chooses a column is one of the first as many as there are columns
count_some : {X : Type 0} (p : X → Bool) (xs : List X) (k : ℕ) (d : X) → k < length xs → p (get_or xs k d) ≡ true → 0 < count_by p xs
count_some p [] k d inside passes = absurd (omega arith)
count_some p (x ∷ xs) zero d inside passes =
    let one : ◌≡◌ {A = ℕ} (cond (p x) 1 0) 1 = rw passes refl in
    omega (arith, sum_by-cons (λ y. cond (p y) 1 0) x xs, one)
count_some p (x ∷ xs) (suc k) d inside passes =
    omega (arith, sum_by-cons (λ y. cond (p y) 1 0) x xs, count_some p xs k d (omega arith) passes)

pub chooses_early : (kept : Option ℕ) (width : ℕ) (given : List Numbered) (s : ℕ) (stage : Stage) (choice : Choice) → Stands kept width given s stage
    → Chooses (free_columns kept width) stage choice → s < width
chooses_early kept width given s stage choice stands chooses =
    let columns : List ℕ = free_columns kept width in
    let good = choice_of-Some (Contains columns) columns (tidied_rows stage) choice (All-contains_itself columns) chooses.chosen in
    let on : is_live choice.column stage.rows ≡ true = live_unless_gone choice.column stage.rows (λ gone. good.there (IsGone-tidied choice.column stage.next stage.rows gone)) in
    let some : 0 < count_live columns stage.rows =
    count_some (λ column. is_live column stage.rows) columns good.may_go.0 choice.column good.may_go.1
    (subst (λ (column : ℕ). is_live column stage.rows ≡ true) (sym good.may_go.2) on) in
    omega (arith, some, stands.live)

-- the given rows are few where the first stage was reached
pub few_given : (columns : List ℕ) (given : List Numbered) (s : ℕ) (stage : Stage) → IsReached columns given s stage → HasFew given
few_given columns given zero stage reached = let Q : Stage → Type 0 = λ at. HasFew at.rows in subst Q reached.1 reached.0
few_given columns given (suc s) stage reached = few_given columns given s reached.0 reached.1

-- With at most five columns and entries of at most 3 no stage leaves the range.
pub never_leaves : (kept : Option ℕ) (width : ℕ) (given : List Numbered) (s : ℕ) → width ≤ 5 → HaveWidth width given → Every (IsSmall 3) given
    → ¬ LeavesRangeAt (free_columns kept width) given s
never_leaves kept width given s narrow widths small leaves =
    let few : HasFew given = few_given (free_columns kept width) given s leaves.stage leaves.reached in
    let all = reached_small kept width given s leaves.stage widths few small leaves.reached in
    let rows : List Numbered = tidied_rows leaves.stage in
    let early : s < width = chooses_early kept width given s leaves.stage leaves.choice all.stands leaves.chooses in
    let tidy : Every (IsSmall (greatest_at s)) rows = Every-tidied (IsSmall (greatest_at s)) (small-kept (greatest_at s)) leaves.stage.next leaves.stage.rows all.small in
    let is_choice : IsChoice width rows leaves.choice = choice-is_choice kept width rows leaves.choice leaves.chooses.chosen in
    let pairs : All (IsPair leaves.choice.column rows) (pairs_for leaves.choice rows) = pairs_for-are_pairs width rows leaves.choice is_choice in
    let wide : HaveWidth width rows = HaveWidth-tidied width leaves.stage.next leaves.stage.rows all.stands.widths in
    leaves.leaves (stays_wide_small width (greatest_at s) leaves.choice rows wide pairs tidy (greatest_at-wide s (omega (arith, early, narrow))))
