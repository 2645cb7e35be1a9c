-- Numbers that stand in words of 128 bits are themselves where they fit.
use Rattle.std.proofs.Common.{◌≡◌, ◌∙◌, ap, sym, subst, arith, ℤ, pos, unsigned_abs, neg_ℤ, ◌<◌, ◌≤◌, ◌^◌, ◌-ℤ◌, ◌<ℤ◌, ◌≤ℤ◌, FitsSigned, to_z, of_z}
use Rattle.std.specs.Int.{w128, int_div_euclid, int_max, int_min}
use Rattle.std.proofs.lemmas.Int.{ints, to_z-of_z, fits_signed_from_abs}
use Rattle.az_lin.specs.Affine.{IsEntry}
use Rattle.az_lin.proofs.Integers.{unsigned_abs-floor}
use Rattle.loop_scan.specs.declared.range.Range.{Range}
use Rattle.loop_scan.specs.Nest.Levels.{narrowed}
use Rattle.loop_scan.proofs.Ranges.{narrowed-positive, narrowed-negative}

abbrev word : ℤ → ℤ
word z = to_z w128 (of_z w128 z)

word_is : (z : ℤ) → unsigned_abs z < 2 ^ 127 → word z ≡ z
word_is z h = to_z-of_z w128 z (fits_signed_from_abs w128 z (omega arith))

module _ (value coef floor : ℤ) (small : unsigned_abs value < 2 ^ 107) (entry : IsEntry coef) where
  -- a positive coefficient
  module _ (positive : pos 0 <ℤ coef) (is : floor ≡ int_div_euclid (word value) (word coef)) where
    floor_is : floor ≡ int_div_euclid value coef
    floor_is = is ∙ ap (λ v. int_div_euclid v (word coef)) (word_is value (omega arith)) ∙ ap (int_div_euclid value) (word_is coef (omega arith))

    floor_small : unsigned_abs floor < 2 ^ 107
    floor_small = let bound : unsigned_abs (int_div_euclid value coef) ≤ unsigned_abs value = unsigned_abs-floor value coef positive in
        let P : ℤ → Type 0 = λ z. unsigned_abs z < 2 ^ 107 in subst P (sym floor_is) (omega arith)

    pub negation_fits : FitsSigned w128 (pos 0 -ℤ word floor)
    negation_fits = let s = floor_small in
        let same : word floor ≡ floor = word_is floor (omega arith) in
        let P : ℤ → Type 0 = λ z. FitsSigned w128 (pos 0 -ℤ z) in
        subst P (sym same) (fits_signed_from_abs w128 (pos 0 -ℤ floor) (omega (arith, ints)))

    pub raised : (range : Range) → FitsSigned w128 range.low → FitsSigned w128 range.high → (got : ℤ) → FitsSigned w128 got
        → got ≡ int_max (word (pos 0 -ℤ word floor)) (word range.low) → ◌≡◌ {A = Range} (record { low = word got; high = word range.high }) (narrowed coef value range)
    raised range low_fits high_fits got fits h =
        let s = floor_small in
        let plain : word floor ≡ floor = word_is floor (omega arith) in
        let turned : word (pos 0 -ℤ word floor) ≡ neg_ℤ (int_div_euclid value coef) =
        ap (λ z. word (pos 0 -ℤ z)) plain ∙ word_is (pos 0 -ℤ floor) (omega (arith, ints)) ∙ ap (λ z. pos 0 -ℤ z) floor_is ∙ omega (arith, ints) in
        let new : got ≡ int_max (neg_ℤ (int_div_euclid value coef)) range.low =
        h ∙ ap (λ z. int_max z (word range.low)) turned ∙ ap (int_max (neg_ℤ (int_div_euclid value coef))) (to_z-of_z w128 range.low low_fits) in
        let make : ℤ → ℤ → Range = λ low high. record { low = low; high = high } in
        ap (λ z. make z (word range.high)) (to_z-of_z w128 got fits ∙ new) ∙ ap (make (int_max (neg_ℤ (int_div_euclid value coef)) range.low)) (to_z-of_z w128 range.high high_fits)
        ∙ narrowed-positive coef value range positive

  -- a negative one
  module _ (negative : coef ≤ℤ pos 0) (is : floor ≡ int_div_euclid (word value) (word (pos 0 -ℤ word coef))) where
    pub lowered : (range : Range) → FitsSigned w128 range.low → FitsSigned w128 range.high → (got : ℤ) → FitsSigned w128 got → FitsSigned w128 floor
        → got ≡ int_min (word range.high) (word floor) → ◌≡◌ {A = Range} (record { low = word range.low; high = word got }) (narrowed coef value range)
    lowered range low_fits high_fits got fits floor_fits h =
        let turned : word (pos 0 -ℤ word coef) ≡ neg_ℤ coef =
        ap (λ z. word (pos 0 -ℤ z)) (word_is coef (omega arith)) ∙ word_is (pos 0 -ℤ coef) (omega (arith, ints)) ∙ omega (arith, ints) in
        let quotient : word floor ≡ int_div_euclid value (neg_ℤ coef) =
        to_z-of_z w128 floor floor_fits ∙ is ∙ ap (λ v. int_div_euclid v (word (pos 0 -ℤ word coef))) (word_is value (omega arith)) ∙ ap (int_div_euclid value) turned in
        let new : got ≡ int_min range.high (int_div_euclid value (neg_ℤ coef)) =
        h ∙ ap (λ z. int_min z (word floor)) (to_z-of_z w128 range.high high_fits) ∙ ap (int_min range.high) quotient in
        let make : ℤ → ℤ → Range = λ low high. record { low = low; high = high } in
        ap (λ z. make z (word got)) (to_z-of_z w128 range.low low_fits) ∙ ap (make range.low) (to_z-of_z w128 got fits ∙ new)
        ∙ narrowed-negative coef value range negative
