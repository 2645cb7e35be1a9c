-- Small rows give a point of numbers that stay in range.
use Rattle.std.proofs.Common.{◌≡◌, ℕ, zero, suc, ◌+◌, ◌-◌, ◌*◌, ◌^◌, ◌<◌, ◌≤◌, ◌∙◌, sym, subst, refl, arith, Bool, true, false, cond, not, Option, Some, None, List, [], ◌∷◌, ◌++◌, length, get_or, replicate, All, ℤ, pos, neg_ℤ, unsigned_abs, ◌+ℤ◌, ◌*ℤ◌, ◌<ℤ◌}
use Rattle.std.proofs.lemmas.Int.{ints, unsigned_abs-mul}
use Rattle.std.proofs.lemmas.Nat.{mul-le}
use Rattle.std.proofs.lemmas.List.{length-set, length-map, length-replicate}
use Rattle.std.proofs.lemmas.List.Elements.{All-nil, All-cons, All-head, All-tail, All-weaker, All-map, All-filter, All-set}
use Rattle.std.specs.Int.{int_div_euclid}
use Rattle.std.specs.List.{fold}
use Rattle.std.specs.Option.{option_or}
use Rattle.az_lin.specs.Affine.{Affine, IsWide, dot}
use Rattle.az_lin.specs.RationalPoint.{AddsWide, IsWideAt, value_over}
use Rattle.az_lin.specs.CommonDivisor.{gcd_of_all}
use Rattle.az_lin.specs.declared.step.RatPoint.{RatPoint}
use Rattle.az_lin.proofs.DivisorLaws.{gcd_of-is_gcd}
use Rattle.az_lin.proofs.Integers.{unsigned_abs-floor, mul-pos_int, floor_exact, lt_of_mul_left_int}
use Rattle.std.proofs.Common.{mul-pos}
use Rattle.az_lin.proofs.Magnitude.{unsigned_abs-add}
use Rattle.farkas_find.specs.declared.numbered.Numbered.{Numbered}
use Rattle.farkas_find.specs.declared.trail.Eliminated.{Eliminated}
use Rattle.farkas_find.specs.declared.bound.Bound.{Bound}
use Rattle.farkas_find.specs.Tidying.{coef_at, is_zero, rounded}
use Rattle.farkas_find.specs.Combining.{HaveWidth, has_sign, is_positive}
use Rattle.farkas_find.specs.BackSubstitution.{origin, put, cleared, bound_of, bounds_at, magnitude, is_tighter, tighter, tighter_of, from_side, tightest, taken, factor_at, number_at, scaled, common_divisor_of, reduced, placed_by, placed, point_from, point_of, AreComparable, CompareWide, TightestWide, TakenWide, ScaledWide, PlacedWide, PointWide, IsFoundWide}
use Rattle.farkas_find.proofs.Small.{IsAtMost, IsSmall, small-kept, reached_small, greatest_at, greatest_at-positive, entry_at_most}
use Rattle.az_lin.specs.Affine.{HasWidth}
use Rattle.farkas_find.specs.declared.choice.Choice.{Choice}
use Rattle.farkas_find.specs.declared.trail.Stage.{Stage}
use Rattle.farkas_find.specs.Choosing.{free_columns}
use Rattle.farkas_find.specs.Stages.{HasFew, IsReached, tidied_rows, rows_with}
use Rattle.farkas_find.proofs.Keeping.{Every, Every-tidied, kept_by_rounded}
use Rattle.farkas_find.proofs.Widths.{HaveWidth-tidied}
use Rattle.farkas_find.proofs.Trails.{gone_by, trail_is, rows_with-width, rows_with-nonzero, reached_inside}
use Rattle.farkas_find.proofs.Reduced.{common_is_positive, positive_whole}

-- a point of few columns with small numbers
pub record IsSmallPoint (width most : ℕ) (point : RatPoint) : Type 0 where
  pub count : length point.nums ≡ width
  pub numbers : All (IsAtMost most) point.nums
  pub denominator : IsAtMost most point.den
  pub positive : pos 0 <ℤ point.den

product_at_most : (x y : ℤ) (e n : ℕ) → unsigned_abs x ≤ e → unsigned_abs y ≤ n → unsigned_abs (x *ℤ y) ≤ e * n
product_at_most x y e n p q = rw unsigned_abs-mul (mul-le (unsigned_abs x) (unsigned_abs y) e n p q)

one_more : (k p : ℕ) → suc k * p ≡ p + k * p
one_more k p = omega arith

dot_at_most : (xs ys : List ℤ) (e n : ℕ) → All (IsAtMost e) xs → All (IsAtMost n) ys → unsigned_abs (dot xs ys) ≤ length xs * (e * n)
dot_at_most [] ys e n p q = omega arith
dot_at_most (x ∷ xs) [] e n p q = omega arith
dot_at_most (x ∷ xs) (y ∷ ys) e n p q =
    let here = product_at_most x y e n (All-head (IsAtMost e) x xs p) (All-head (IsAtMost n) y ys q) in
    let rest = dot_at_most xs ys e n (All-tail (IsAtMost e) x xs p) (All-tail (IsAtMost n) y ys q) in
    omega (arith, here, rest, unsigned_abs-add (x *ℤ y) (dot xs ys), one_more (length xs) (e * n))

adds_wide : (sum : ℤ) (xs ys : List ℤ) (e n so_far : ℕ) → All (IsAtMost e) xs → All (IsAtMost n) ys → unsigned_abs sum ≤ so_far → so_far + length xs * (e * n) < 2 ^ 127
    → AddsWide sum xs ys
adds_wide sum [] ys e n so_far p q low few = tt
adds_wide sum (x ∷ xs) [] e n so_far p q low few = tt
adds_wide sum (x ∷ xs) (y ∷ ys) e n so_far p q low few =
    let here = product_at_most x y e n (All-head (IsAtMost e) x xs p) (All-head (IsAtMost n) y ys q) in
    let more = one_more (length xs) (e * n) in
    let next : unsigned_abs (sum +ℤ (x *ℤ y)) ≤ so_far + e * n = omega (arith, here, low, unsigned_abs-add sum (x *ℤ y)) in
    let room : (so_far + e * n) + length xs * (e * n) < 2 ^ 127 = omega (arith, more, few) in
    (omega (arith, here, more, few), omega (arith, next, room), adds_wide (sum +ℤ (x *ℤ y)) xs ys e n (so_far + e * n) (All-tail (IsAtMost e) x xs p) (All-tail (IsAtMost n) y ys q) next room)

times_few : (w p : ℕ) → w ≤ 5 → w * p ≤ 5 * p
times_few w p h = mul-le w p 5 p h (omega arith)

pub wide_at_small : (width e n : ℕ) (row : Affine) (point : RatPoint) → width ≤ 5 → length row.coefs ≡ width → IsSmall e row → IsSmallPoint width n point → 6 * (e * n) < 2 ^ 127
    → IsWideAt point row
wide_at_small width e n row point narrow same small at few =
    let start = product_at_most row.konst point.den e n small.constant at.denominator in
    let rest : length row.coefs * (e * n) ≤ 5 * (e * n) = times_few (length row.coefs) (e * n) (omega (arith, same, narrow)) in
    record {
      constant = omega (arith, start, few);
      products = adds_wide (row.konst *ℤ point.den) row.coefs point.nums e n (e * n) small.coefficients at.numbers start (omega (arith, rest, few));
    }

value_at_most : (width e n : ℕ) (row : Affine) (point : RatPoint) → width ≤ 5 → length row.coefs ≡ width → IsSmall e row → IsSmallPoint width n point
    → unsigned_abs (value_over row point) ≤ 6 * (e * n)
value_at_most width e n row point narrow same small at =
    let start = product_at_most row.konst point.den e n small.constant at.denominator in
    let rest = dot_at_most row.coefs point.nums e n small.coefficients at.numbers in
    let few : length row.coefs * (e * n) ≤ 5 * (e * n) = times_few (length row.coefs) (e * n) (omega (arith, same, narrow)) in
    omega (arith, start, rest, few, unsigned_abs-add (row.konst *ℤ point.den) (dot row.coefs point.nums))

-- bounds of small rests and small coefficients, none of them 0
pub record IsSmallBound (r e : ℕ) (bound : Bound) : Type 0 where
  pub rest : IsAtMost r bound.rest
  pub coef : IsAtMost e bound.coef
  pub nonzero : 0 < unsigned_abs bound.coef

abbrev HasSmallBound : ℕ → ℕ → Option Bound → Type 0
HasSmallBound r e None = Unit {0}
HasSmallBound r e (Some bound) = IsSmallBound r e bound

magnitude_is : (z : ℤ) → unsigned_abs (magnitude z) ≡ unsigned_abs z
magnitude_is z = refl

compared_wide : (r e : ℕ) (x c : ℤ) → unsigned_abs x ≤ r → unsigned_abs c ≤ e → r * e < 2 ^ 127 → IsWide (x *ℤ magnitude c)
compared_wide r e x c p q few = let h = product_at_most x (magnitude c) r e p q in omega (arith, h, few)

comparable_small : (r e : ℕ) (best : Option Bound) (next : Bound) → HasSmallBound r e best → IsSmallBound r e next → r * e < 2 ^ 127 → AreComparable best next
comparable_small r e None next p q few = tt
comparable_small r e (Some best) next p q few = (compared_wide r e next.rest best.coef q.rest p.coef few, compared_wide r e best.rest next.coef p.rest q.coef few)

tighter_small : (r e : ℕ) (best : Option Bound) (next : Bound) → HasSmallBound r e best → IsSmallBound r e next → IsSmallBound r e (tighter best next)
unfolding tighter
tighter_small r e None next p q = q
tighter_small r e (Some best) next p q = elim (is_tighter next best) as (λ b. IsSmallBound r e (cond b next best)) [ true ↦ q | false ↦ p ]

compare_small : (r e : ℕ) (best : Option Bound) (bounds : List Bound) → HasSmallBound r e best → All (IsSmallBound r e) bounds → r * e < 2 ^ 127 → CompareWide best bounds
compare_small r e best [] p all few = tt
compare_small r e best (next ∷ bounds) p all few =
    let here = All-head (IsSmallBound r e) next bounds all in (
      comparable_small r e best next p here few,
      compare_small r e (tighter_of best next) bounds (tighter_small r e best next p here) (All-tail (IsSmallBound r e) next bounds all) few,
    )

fold_small : (r e : ℕ) (best : Option Bound) (bounds : List Bound) → HasSmallBound r e best → All (IsSmallBound r e) bounds → HasSmallBound r e (fold tighter_of best bounds)
fold_small r e best [] p all = p
fold_small r e best (next ∷ bounds) p all =
    fold_small r e (tighter_of best next) bounds (tighter_small r e best next p (All-head (IsSmallBound r e) next bounds all)) (All-tail (IsSmallBound r e) next bounds all)

side_small : (r e : ℕ) (below : Bool) (bounds : List Bound) → All (IsSmallBound r e) bounds → All (IsSmallBound r e) (from_side below bounds)
side_small r e below bounds all = All-filter (λ bound. has_sign below bound.coef) (IsSmallBound r e) bounds all

tightest_wide : (r e : ℕ) (below : Bool) (bounds : List Bound) → All (IsSmallBound r e) bounds → r * e < 2 ^ 127 → TightestWide below bounds
unfolding TightestWide
tightest_wide r e below bounds all few = compare_small r e None (from_side below bounds) tt (side_small r e below bounds all) few

tightest_small : (r e : ℕ) (below : Bool) (bounds : List Bound) → All (IsSmallBound r e) bounds → HasSmallBound r e (tightest below bounds)
unfolding tightest
tightest_small r e below bounds all = fold_small r e None (from_side below bounds) tt (side_small r e below bounds all)

either_small : (r e : ℕ) (first second : Option Bound) → HasSmallBound r e first → HasSmallBound r e second → HasSmallBound r e (option_or first second)
either_small r e None second p q = q
either_small r e (Some bound) second p q = p

taken_small : (r e : ℕ) (bounds : List Bound) → All (IsSmallBound r e) bounds → HasSmallBound r e (taken bounds)
unfolding taken
taken_small r e bounds all = either_small r e (tightest true bounds) (tightest false bounds) (tightest_small r e true bounds all) (tightest_small r e false bounds all)

taken_wide : (r e : ℕ) (bounds : List Bound) → All (IsSmallBound r e) bounds → r * e < 2 ^ 127 → TakenWide bounds
taken_wide r e bounds all few = record { below = tightest_wide r e true bounds all few; above = λ _. tightest_wide r e false bounds all few }

bounds_small : (width e n : ℕ) (gone : Eliminated) (point : RatPoint) → width ≤ 5 → HaveWidth width gone.rows → Every (IsSmall e) gone.rows
    → All (λ it. 0 < unsigned_abs (coef_at gone.column it)) gone.rows → IsSmallPoint width n point → All (IsSmallBound (6 * (e * n)) e) (bounds_at gone point)
unfolding bounds_at
bounds_small width e n gone point narrow widths small nonzero at =
    All-map (IsSmallBound (6 * (e * n)) e) (bound_of gone.column point) gone.rows
    (λ k d inside.
    let it : Numbered = get_or gone.rows k d in
    record {
      rest = value_at_most width e n it.row point narrow (widths k d inside) (small k d inside) at;
      coef = entry_at_most e it.row.coefs gone.column (small k d inside).coefficients;
      nonzero = nonzero k d inside;
    })

-- the factor and the number at a bound
factor_at_most : (r e : ℕ) (bound : Option Bound) → 0 < e → HasSmallBound r e bound → unsigned_abs (factor_at bound) ≤ e
factor_at_most r e None p h = omega (arith, p)
factor_at_most r e (Some bound) p h = h.coef

factor_positive : (r e : ℕ) (bound : Option Bound) → HasSmallBound r e bound → pos 0 <ℤ factor_at bound
factor_positive r e None h = omega (arith, ints)
factor_positive r e (Some bound) h = positive_whole (unsigned_abs bound.coef) h.nonzero

number_at_most : (r e : ℕ) (bound : Option Bound) → HasSmallBound r e bound → unsigned_abs (number_at bound) ≤ r
number_at_most r e None h = omega arith
number_at_most r e (Some bound) h =
    let same : unsigned_abs (neg_ℤ bound.rest) ≡ unsigned_abs bound.rest = omega (arith, ints) in
    elim (is_positive bound.coef) as (λ b. unsigned_abs (cond b (neg_ℤ bound.rest) bound.rest) ≤ r) [ true ↦ rw same h.rest | false ↦ h.rest ]

scaled_wide : (width e n : ℕ) (factor : ℤ) (point : RatPoint) → unsigned_abs factor ≤ e → IsSmallPoint width n point → e * n < 2 ^ 127 → ScaledWide factor point
scaled_wide width e n factor point p at few = record {
  numbers = All-weaker (IsAtMost n) (λ number. IsWide (factor *ℤ number)) (λ z (h : IsAtMost n z). let s = product_at_most factor z e n p h in let t : IsWide (factor *ℤ z) = omega (arith, s, few) in t) point.nums at.numbers;
  denominator = let s = product_at_most factor point.den e n p at.denominator in omega (arith, s, few);
}

scaled_small : (width e n : ℕ) (factor : ℤ) (point : RatPoint) → unsigned_abs factor ≤ e → pos 0 <ℤ factor → IsSmallPoint width n point → IsSmallPoint width (e * n) (scaled factor point)
unfolding scaled
scaled_small width e n factor point p positive at = record {
  count = length-map point.nums (λ number. factor *ℤ number) ∙ at.count;
  numbers = All-map (IsAtMost (e * n)) (λ number. factor *ℤ number) point.nums
      (All-weaker (IsAtMost n) (λ number. IsAtMost (e * n) (factor *ℤ number)) (λ z (h : IsAtMost n z). product_at_most factor z e n p h) point.nums at.numbers);
  denominator = product_at_most factor point.den e n p at.denominator;
  positive = mul-pos_int factor point.den positive at.positive;
}

more_at_most : (n m : ℕ) (zs : List ℤ) → n ≤ m → All (IsAtMost n) zs → All (IsAtMost m) zs
more_at_most n m zs h all = All-weaker (IsAtMost n) (IsAtMost m) (λ z (s : IsAtMost n z). let t : IsAtMost m z = omega (arith, s, h) in t) zs all

put_small : (width n m : ℕ) (column : ℕ) (number : ℤ) (point : RatPoint) → n ≤ m → unsigned_abs number ≤ m → IsSmallPoint width n point → IsSmallPoint width m (put column number point)
put_small width n m column number point h p at = record {
  count = length-set point.nums column number ∙ at.count;
  numbers = All-set (IsAtMost m) point.nums column number p (more_at_most n m point.nums h at.numbers);
  denominator = omega (arith, h, at.denominator);
  positive = at.positive;
}

left_positive : (den : ℤ) (nums : List ℤ) → pos 0 <ℤ den → pos 0 <ℤ int_div_euclid den (pos (gcd_of_all (den ∷ nums)))
left_positive den nums h =
    let g = gcd_of_all (den ∷ nums) in
    let above : pos 0 <ℤ pos g = positive_whole g (common_is_positive den nums h) in
    let whole : pos g *ℤ int_div_euclid den (pos g) ≡ den = floor_exact den (pos g) above (gcd_of-is_gcd (unsigned_abs den) (gcd_of_all nums)).0 in
    let more : (pos g *ℤ pos 0) <ℤ (pos g *ℤ int_div_euclid den (pos g)) = omega (arith, ints, whole, h) in
    lt_of_mul_left_int (pos g) (pos 0) (int_div_euclid den (pos g)) above more

reduced_small : (width n : ℕ) (point : RatPoint) → IsSmallPoint width n point → IsSmallPoint width n (reduced point)
unfolding reduced
reduced_small width n point at =
    let g = common_divisor_of point in
    let above : pos 0 <ℤ pos g = positive_whole g (common_is_positive point.den point.nums at.positive) in
    record {
      count = length-map point.nums (λ number. int_div_euclid number (pos g)) ∙ at.count;
      numbers = All-map (IsAtMost n) (λ number. int_div_euclid number (pos g)) point.nums
          (All-weaker (IsAtMost n) (λ number. IsAtMost n (int_div_euclid number (pos g))) (λ z (h : IsAtMost n z). let t : IsAtMost n (int_div_euclid z (pos g)) = omega (arith, h, unsigned_abs-floor z (pos g) above) in t) point.nums at.numbers);
      denominator = omega (arith, at.denominator, unsigned_abs-floor point.den (pos g) above);
      positive = left_positive point.den point.nums at.positive;
    }

placed_by_small : (width e n column : ℕ) (bound : Option Bound) (point : RatPoint) → 0 < e → HasSmallBound (6 * (e * n)) e bound → IsSmallPoint width n point
    → IsSmallPoint width (6 * (e * n)) (placed_by column bound point)
unfolding placed_by
placed_by_small width e n column bound point positive small at =
    reduced_small width (6 * (e * n)) (put column (number_at bound) (scaled (factor_at bound) point))
    (put_small width (e * n) (6 * (e * n)) column (number_at bound) (scaled (factor_at bound) point) (omega arith) (number_at_most (6 * (e * n)) e bound small)
    (scaled_small width e n (factor_at bound) point (factor_at_most (6 * (e * n)) e bound positive small) (factor_positive (6 * (e * n)) e bound small) at))

cleared_small : (width n column : ℕ) (point : RatPoint) → IsSmallPoint width n point → IsSmallPoint width n (cleared column point)
cleared_small width n column point at = put_small width n n column (pos 0) point (omega arith) (omega arith) at

-- a column that went, with rows that are small
pub record IsSmallGone (width e : ℕ) (gone : Eliminated) : Type 0 where
  pub widths : HaveWidth width gone.rows
  pub small : Every (IsSmall e) gone.rows
  pub nonzero : All (λ it. 0 < unsigned_abs (coef_at gone.column it)) gone.rows

placed_small : (width e n : ℕ) (gone : Eliminated) (point : RatPoint) → width ≤ 5 → 0 < e → IsSmallGone width e gone → IsSmallPoint width n point
    → IsSmallPoint width (6 * (e * n)) (placed gone point)
unfolding placed
placed_small width e n gone point narrow positive small at =
    let there = cleared_small width n gone.column point at in
    let bounds = bounds_small width e n gone (cleared gone.column point) narrow small.widths small.small small.nonzero there in
    placed_by_small width e n gone.column (taken (bounds_at gone (cleared gone.column point))) (cleared gone.column point) positive (taken_small (6 * (e * n)) e (bounds_at gone (cleared gone.column point)) bounds) there

placed_wide : (width e n : ℕ) (gone : Eliminated) (point : RatPoint) → width ≤ 5 → 0 < e → IsSmallGone width e gone → IsSmallPoint width n point
    → 6 * (e * n) * e < 2 ^ 127 → e * n < 2 ^ 127 → 6 * (e * n) < 2 ^ 127 → PlacedWide gone (cleared gone.column point)
placed_wide width e n gone point narrow positive small at few less rest_few =
    let there = cleared_small width n gone.column point at in
    let here = cleared gone.column point in
    let bounds = bounds_small width e n gone here narrow small.widths small.small small.nonzero there in
    record {
      rests = λ k d inside. wide_at_small width e n (get_or gone.rows k d).row here narrow (small.widths k d inside) (small.small k d inside) there rest_few;
      takes = taken_wide (6 * (e * n)) e (bounds_at gone here) bounds few;
      scales = scaled_wide width e n (factor_at (taken (bounds_at gone here))) here
          (factor_at_most (6 * (e * n)) e (taken (bounds_at gone here)) positive (taken_small (6 * (e * n)) e (bounds_at gone here) bounds)) there less;
    }

-- the columns that went from a stage on, and the greatest number of the point that they give, by how many may follow
abbrev pub AreSmallFrom : ℕ → ℕ → List Eliminated → Type 0
AreSmallFrom width s [] = Unit {0}
AreSmallFrom width s (gone ∷ trail) = IsSmallGone width (greatest_at s) gone × AreSmallFrom width (suc s) trail

abbrev pub greatest_number : ℕ → ℕ
greatest_number zero = 1
greatest_number (suc left) = 6 * (greatest_at (4 - left) * greatest_number left)

greatest_number-positive : (left : ℕ) → 0 < greatest_number left
greatest_number-positive zero = omega arith
greatest_number-positive (suc left) =
    let p : 0 < greatest_at (4 - left) * greatest_number left = mul-pos (greatest_at-positive (4 - left)) (greatest_number-positive left) in
    omega (arith, p)

compare_room : (left : ℕ) → left < 5 → 6 * (greatest_at (4 - left) * greatest_number left) * greatest_at (4 - left) < 2 ^ 127
compare_room zero h = omega arith
compare_room (suc zero) h = omega arith
compare_room (suc (suc zero)) h = omega arith
compare_room (suc (suc (suc zero))) h = omega arith
compare_room (suc (suc (suc (suc zero)))) h = omega arith
compare_room (suc (suc (suc (suc (suc left))))) h = absurd (omega arith)

less_room : (e r many : ℕ) → 0 < e → r * e < many → r < many
less_room (suc e) r many p h = omega (arith, h)
less_room zero r many p h = absurd (omega arith)

pub point_from_small : (width s left : ℕ) (trail : List Eliminated) (point : RatPoint) → width ≤ 5 → s + left ≡ 5 → length trail ≤ left → AreSmallFrom width s trail
    → IsSmallPoint width 1 point → IsSmallPoint width (greatest_number left) (point_from trail point)
point_from_small width s left [] point narrow count long small at =
    let h = greatest_number-positive left in
    record { count = at.count; numbers = more_at_most 1 (greatest_number left) point.nums (omega (arith, h)) at.numbers; denominator = omega (arith, h, at.denominator); positive = at.positive }
point_from_small width s zero (gone ∷ trail) point narrow count long small at = absurd (omega arith)
point_from_small width s (suc left) (gone ∷ trail) point narrow count long small at =
    let rest = point_from_small width (suc s) left trail point narrow (omega arith) (omega arith) small.1 at in
    let here : s ≡ 4 - left = omega arith in
    let P : ℕ → Type 0 = λ n. IsSmallPoint width (6 * (greatest_at n * greatest_number left)) (point_from (gone ∷ trail) point) in
    subst P here (placed_small width (greatest_at s) (greatest_number left) gone (point_from trail point) narrow (greatest_at-positive s) small.0 rest)

pub point_wide_small : (width s left : ℕ) (trail : List Eliminated) (point : RatPoint) → width ≤ 5 → s + left ≡ 5 → length trail ≤ left → AreSmallFrom width s trail
    → IsSmallPoint width 1 point → PointWide trail point
point_wide_small width s left [] point narrow count long small at = tt
point_wide_small width s zero (gone ∷ trail) point narrow count long small at = absurd (omega arith)
point_wide_small width s (suc left) (gone ∷ trail) point narrow count long small at =
    let rest = point_from_small width (suc s) left trail point narrow (omega arith) (omega arith) small.1 at in
    let e = greatest_at s in
    let n = greatest_number left in
    let here : 4 - left ≡ s = omega arith in
    let P : ℕ → Type 0 = λ t. 6 * (greatest_at t * n) * greatest_at t < 2 ^ 127 in
    let few : 6 * (e * n) * e < 2 ^ 127 = subst P here (compare_room left (omega arith)) in
    let rest_few : 6 * (e * n) < 2 ^ 127 = less_room e (6 * (e * n)) (2 ^ 127) (greatest_at-positive s) few in (
      point_wide_small width (suc s) left trail point narrow (omega arith) (omega arith) small.1 at,
      placed_wide width e n gone (point_from trail point) narrow (greatest_at-positive s) small.0 rest few (omega (arith, rest_few)) rest_few,
    )

zeros_small : (n : ℕ) → All (IsAtMost 1) (replicate n (pos 0))
zeros_small zero = All-nil (IsAtMost 1)
zeros_small (suc n) = All-cons (IsAtMost 1) (pos 0) (replicate n (pos 0)) (omega arith) (zeros_small n)

origin_small : (width : ℕ) → IsSmallPoint width 1 (origin width)
origin_small width = record {
  count = length-replicate width (pos 0);
  numbers = zeros_small width;
  denominator = omega arith;
  positive = omega (arith, ints);
}

-- the columns that went before one more
small_pushed : (width s : ℕ) (trail : List Eliminated) (gone : Eliminated) → AreSmallFrom width s trail → IsSmallGone width (greatest_at (s + length trail)) gone
    → AreSmallFrom width s (trail ++ gone ∷ [])
small_pushed width s [] gone small last =
    let same : s + 0 ≡ s = omega arith in
    let P : ℕ → Type 0 = λ n. IsSmallGone width (greatest_at n) gone in
    (subst P same last, tt)
small_pushed width s (first ∷ trail) gone small last =
    let same : s + suc (length trail) ≡ suc s + length trail = omega arith in
    let P : ℕ → Type 0 = λ n. IsSmallGone width (greatest_at n) gone in
    (small.0, small_pushed width (suc s) trail gone small.1 (subst P same last))

rows_with-small : (e column : ℕ) (rows : List Numbered) → Every (IsSmall e) rows → Every (IsSmall e) (rows_with column rows)
unfolding rows_with
rows_with-small e column rows small = All-filter (λ it. not (is_zero (coef_at column it))) (λ it. IsSmall e it.row) rows small

pub trail_small : (kept : Option ℕ) (width : ℕ) (given : List Numbered) (s : ℕ) (stage : Stage) → HaveWidth width given → HasFew given → Every (IsSmall 3) given
    → IsReached (free_columns kept width) given s stage → AreSmallFrom width 0 stage.trail
trail_small kept width given zero stage widths few small reached =
    let P : Stage → Type 0 = λ at. AreSmallFrom width 0 at.trail in
    subst P (sym reached.1) tt
trail_small kept width given (suc s) stage widths few small reached =
    let earlier : Stage = reached.0 in
    let before = reached_small kept width given s earlier widths few small reached.1 in
    let inside = reached_inside kept width given s earlier widths few reached.1 in
    let follows = reached.2 in
    let choice : Choice = follows.choice in
    let rows : List Numbered = tidied_rows earlier in
    let wide : HaveWidth width rows = HaveWidth-tidied width earlier.next earlier.rows before.stands.widths in
    let tidy : Every (IsSmall (greatest_at s)) rows = Every-tidied (IsSmall (greatest_at s)) (small-kept (greatest_at s)) earlier.next earlier.rows before.small in
    let gone : Eliminated = gone_by choice earlier in
    let last : IsSmallGone width (greatest_at s) gone = record {
      widths = rows_with-width width choice.column rows wide;
      small = rows_with-small (greatest_at s) choice.column rows tidy;
      nonzero = rows_with-nonzero choice.column rows;
    } in
    let count : s ≡ 0 + length earlier.trail = omega (arith, inside.count) in
    let P : ℕ → Type 0 = λ n. IsSmallGone width (greatest_at n) gone in
    let Q : List Eliminated → Type 0 = AreSmallFrom width 0 in
    subst Q (sym (trail_is choice earlier stage follows.next))
    (small_pushed width 0 earlier.trail gone (trail_small kept width given s earlier widths few small reached.1) (subst P count last))

-- With at most five columns and entries of at most 3 back-substitution stays in range.
last_room : 6 * (3 * greatest_number 5) < 2 ^ 127
last_room = omega arith

rounded-width : (width : ℕ) (row : Affine) → HasWidth width row → HasWidth width (rounded row)
rounded-width width row same =
    kept_by_rounded (HasWidth width) (λ r above h. length-map r.coefs (λ (coef : ℤ). int_div_euclid coef (pos (gcd_of_all r.coefs))) ∙ h) row same

pub found_wide_small : (width : ℕ) (trail : List Eliminated) (given : List Affine) → width ≤ 5 → length trail ≤ 5 → AreSmallFrom width 0 trail
    → All (HasWidth width) given → All (IsSmall 3) given → IsFoundWide width trail given
found_wide_small width trail given narrow short small widths entries =
    let at = point_from_small width 0 5 trail (origin width) narrow refl short small (origin_small width) in
    record {
      columns = point_wide_small width 0 5 trail (origin width) narrow refl short small (origin_small width);
      rows = λ k d inside.
          let row : Affine = get_or given k d in
          wide_at_small width 3 (greatest_number 5) (rounded row) (point_of width trail) narrow (rounded-width width row (widths k d inside))
          (kept_by_rounded (IsSmall 3) (small-kept 3) row (entries k d inside)) at last_room;
    }
