-- The common divisor of numbers and their denominator, and what is left of the denominator.
use Rattle.std.proofs.Common.{◌≡◌, ◌∙◌, ℕ, ◌^◌, ◌<◌, ap, sym, subst, refl, arith, List, ◌∷◌, length, map, set, All, Option, ℤ, pos, ◌*ℤ◌, ◌<ℤ◌, unsigned_abs, to_z, of_z, SFits, lt_of_le_of_lt}
use Rattle.std.specs.Int.{w128, int_div_euclid}
use Rattle.std.proofs.lemmas.Int.{ints, to_z-of_z}
use Rattle.std.proofs.lemmas.List.{length-map, length-set}
use Rattle.std.proofs.lemmas.Nat.Gcd.{le_of_dvd}
use Rattle.az_lin.specs.Affine.{Affine, IsWide}
use Rattle.az_lin.specs.CommonDivisor.{gcd_of, gcd_of_all}
use Rattle.az_lin.specs.Combination.{quotient}
use Rattle.az_lin.specs.declared.step.RatPoint.{RatPoint}
use Rattle.az_lin.proofs.DivisorLaws.{gcd_of-is_gcd}
use Rattle.az_lin.proofs.Integers.{floor_exact, unsigned_abs-floor, lt_of_mul_left_int, mul-pos_int}
use Rattle.az_lin.proofs.WideSums.{quotient_by_one}
use Rattle.farkas_find.proofs.Divisor.{gcd_of-positive}
use Rattle.farkas_find.specs.BackSubstitution.{IsDenominator, ScaledWide, reduced, factor_at, number_at, scaled, placed_by}
use Rattle.farkas_find.specs.declared.bound.Bound.{Bound}

pub common_is : (g u k : ℕ) (den : ℤ) (view nums : List ℤ) → g ≡ gcd_of u k → u ≡ unsigned_abs (to_z w128 (of_z w128 den)) → SFits w128 den
    → k ≡ gcd_of_all view → view ≡ nums → g ≡ gcd_of_all (den ∷ nums)
common_is g u k den view nums is magnitude fits rest same =
    is ∙ ap (λ (n : ℕ). gcd_of n k) (magnitude ∙ ap unsigned_abs (to_z-of_z w128 den fits)) ∙ ap (gcd_of (unsigned_abs den)) (rest ∙ ap gcd_of_all same)

magnitude_of_positive : (z : ℤ) → pos 0 <ℤ z → 0 < unsigned_abs z
magnitude_of_positive z p = omega (arith, ints)

pub common_is_positive : (den : ℤ) (nums : List ℤ) → pos 0 <ℤ den → 0 < gcd_of_all (den ∷ nums)
common_is_positive den nums p = gcd_of-positive (unsigned_abs den) (gcd_of_all nums) (magnitude_of_positive den p)

pub common_is_small : (den : ℤ) (nums : List ℤ) → IsDenominator den → gcd_of_all (den ∷ nums) < 2 ^ 127
common_is_small den nums h =
    lt_of_le_of_lt (le_of_dvd (magnitude_of_positive den h.0) (gcd_of-is_gcd (unsigned_abs den) (gcd_of_all nums)).0) h.1

pub positive_whole : (n : ℕ) → 0 < n → pos 0 <ℤ pos n
positive_whole n p = omega (arith, ints)

pub denominator_left : (den : ℤ) (nums : List ℤ) → IsDenominator den → IsDenominator (int_div_euclid den (pos (gcd_of_all (den ∷ nums))))
denominator_left den nums h =
    let g = gcd_of_all (den ∷ nums) in
    let above : pos 0 <ℤ pos g = positive_whole g (common_is_positive den nums h.0) in
    let whole : pos g *ℤ int_div_euclid den (pos g) ≡ den = floor_exact den (pos g) above (gcd_of-is_gcd (unsigned_abs den) (gcd_of_all nums)).0 in
    let more : (pos g *ℤ pos 0) <ℤ (pos g *ℤ int_div_euclid den (pos g)) = omega (arith, ints, whole, h.0) in
    (lt_of_mul_left_int (pos g) (pos 0) (int_div_euclid den (pos g)) above more, lt_of_le_of_lt (unsigned_abs-floor den (pos g) above) h.1)

pub reduced_is : (nums new : List ℤ) (den left z : ℤ) → z ≡ pos (gcd_of_all (den ∷ nums)) → new ≡ map (λ number. int_div_euclid number z) nums
    → left ≡ int_div_euclid den z
    → (let got : RatPoint = record { nums = new; den = left } in let all : RatPoint = record { nums = nums; den = den } in got ≡ reduced all)
unfolding reduced
reduced_is nums new den left z is divided divides =
    rw (divided, divides, is) refl

pub reduced_by_one : (nums : List ℤ) (den : ℤ) → gcd_of_all (den ∷ nums) ≡ 1
    → (let all : RatPoint = record { nums = nums; den = den } in all ≡ reduced all)
unfolding reduced
reduced_by_one nums den one =
    let row : Affine = record { coefs = nums; konst = den } in
    let same : row ≡ quotient row (pos (gcd_of_all (den ∷ nums))) = quotient_by_one row (pos (gcd_of_all (den ∷ nums))) (ap pos one) in
    let as_point : Affine → RatPoint = λ r. record { nums = r.coefs; den = r.konst } in
    ap as_point same

pub placed_is : (column : ℕ) (bound : Option Bound) (point result : RatPoint) (nums : List ℤ) (den factor number : ℤ) → factor ≡ factor_at bound
    → number ≡ number_at bound → nums ≡ map (λ n. factor *ℤ n) point.nums → den ≡ factor *ℤ point.den
    → (let moved : RatPoint = record { nums = set nums column number; den = den } in result ≡ reduced moved) → result ≡ placed_by column bound point
unfolding placed_by scaled
placed_is column bound point result nums den factor number is number_is multiplied multiplies h =
    let moved : List ℤ → ℤ → ℤ → RatPoint = λ ns d n. record { nums = set ns column n; den = d } in
    h ∙ ap (λ ns. reduced (moved ns den number)) (multiplied ∙ ap (λ (f : ℤ). map (λ n. f *ℤ n) point.nums) is)
    ∙ ap (λ d. reduced (moved (map (λ n. factor_at bound *ℤ n) point.nums) d number)) (multiplies ∙ ap (λ (f : ℤ). f *ℤ point.den) is)
    ∙ ap (λ n. reduced (moved (map (λ n. factor_at bound *ℤ n) point.nums) (factor_at bound *ℤ point.den) n)) number_is

pub scaled_is_wide : (bound : Option Bound) (point : RatPoint) (factor : ℤ) → factor ≡ factor_at bound → All (λ number. IsWide (factor *ℤ number)) point.nums
    → IsWide (factor *ℤ point.den) → ScaledWide (factor_at bound) point
scaled_is_wide bound point factor is numbers denominator =
    let P : ℤ → Type 0 = λ f. All (λ number. IsWide (f *ℤ number)) point.nums in
    let Q : ℤ → Type 0 = λ f. IsWide (f *ℤ point.den) in
    record { numbers = subst P is numbers; denominator = subst Q is denominator }

pub scaled_denominator : (bound : Option Bound) (old den factor : ℤ) → factor ≡ factor_at bound → pos 0 <ℤ factor_at bound → IsDenominator old
    → IsWide (factor *ℤ old) → den ≡ factor *ℤ old → IsDenominator den
scaled_denominator bound old den factor is positive before wide multiplies =
    let P : ℤ → Type 0 = λ f. pos 0 <ℤ f in
    subst IsDenominator (sym multiplies) (mul-pos_int factor old (subst P (sym is) positive) before.0, wide)

pub length-placed_by : (column : ℕ) (bound : Option Bound) (point : RatPoint) → length (placed_by column bound point).nums ≡ length point.nums
unfolding placed_by scaled reduced
length-placed_by column bound point =
    let scale : ℤ → ℤ = λ n. factor_at bound *ℤ n in
    let nums = set (map scale point.nums) column (number_at bound) in
    let d = pos (gcd_of_all ((factor_at bound *ℤ point.den) ∷ nums)) in
    length-map nums (λ n. int_div_euclid n d) ∙ length-set (map scale point.nums) column (number_at bound) ∙ length-map point.nums scale
