use Rattle.std.proofs.Common.{◌≡◌, ◌≢◌, ℕ, ℤ, zero, suc, negsuc, ◌<◌, ◌^◌, ◌/◌, arith, pos, unsigned_abs, to_z, of_z, refl, ap, ◌∙◌}
use Rattle.std.specs.Int.{w128}
use Rattle.std.proofs.lemmas.Int.{to_z-of_z, to_z_pos, fits_signed_from_abs}
use Rattle.std.proofs.Math.Nat.{div-le_self}
use Rattle.az_lin.specs.CommonDivisor.{gcd_of}
use Rattle.farkas_find.specs.Tidying.{coef_at}
use Rattle.farkas_find.specs.Combining.{plus_weight, minus_weight}
use Rattle.farkas_find.proofs.Divisor.{gcd_of-positive}
use Rattle.farkas_find.proofs.combine.weights.Goals as goal

magnitude_is : (r : ℕ) (z coef : ℤ) → r ≡ unsigned_abs (to_z w128 (of_z w128 z)) → unsigned_abs z < 2 ^ 127 → z ≡ coef → r ≡ unsigned_abs coef
magnitude_is r z coef e wide same = e ∙ ap unsigned_abs (to_z-of_z w128 z (fits_signed_from_abs w128 z wide) ∙ same)

magnitude_below : (r : ℕ) (z coef : ℤ) → r ≡ unsigned_abs coef → z ≡ coef → unsigned_abs z < 2 ^ 127 → r < 2 ^ 127
magnitude_below r z coef e same wide = rw (e, ← same) wide

magnitude_positive : (z : ℤ) → z ≢ pos 0 → 0 < unsigned_abs z
magnitude_positive (pos zero) h = absurd (h refl)
magnitude_positive (pos (suc n)) h = omega arith
magnitude_positive (negsuc n) h = omega arith

divided_is : (q g q' g' : ℕ) → q < 2 ^ 127 → q ≡ q' → g ≡ g' → to_z w128 (q / g) ≡ pos (q' / g')
divided_is q g q' g' small e f = to_z_pos w128 (q / g) (omega (arith, div-le_self q g)) ∙ rw (e, f) refl

pub nonzero_div-result : goal.nonzero_div-result
nonzero_div-result c =
    let p_is = magnitude_is c.unsigned_abs-p.result c.coef.result (coef_at c.args.column c.args.plus.now) c.unsigned_abs-p.ensures.value c.coef.ensures.range c.coef.ensures.value in
    let nonzero : 0 < c.unsigned_abs-p.result = rw p_is (magnitude_positive (coef_at c.args.column c.args.plus.now) c.requires.nonzero) in
    rw c.gcd-common.ensures.value (gcd_of-positive c.unsigned_abs-p.result c.unsigned_abs-q.result nonzero)

pub nonzero_div-result-2 : goal.nonzero_div-result-2
nonzero_div-result-2 c =
    let p_is = magnitude_is c.unsigned_abs-p.result c.coef.result (coef_at c.args.column c.args.plus.now) c.unsigned_abs-p.ensures.value c.coef.ensures.range c.coef.ensures.value in
    let nonzero : 0 < c.unsigned_abs-p.result = rw p_is (magnitude_positive (coef_at c.args.column c.args.plus.now) c.requires.nonzero) in
    rw c.gcd-common.ensures.value (gcd_of-positive c.unsigned_abs-p.result c.unsigned_abs-q.result nonzero)

pub returns : goal.returns
unfolding plus_weight minus_weight
returns c =
    let p = coef_at c.args.column c.args.plus.now in
    let q = coef_at c.args.column c.args.minus.now in
    let p_is : c.unsigned_abs-p.result ≡ unsigned_abs p = magnitude_is c.unsigned_abs-p.result c.coef.result p c.unsigned_abs-p.ensures.value c.coef.ensures.range c.coef.ensures.value in
    let q_is : c.unsigned_abs-q.result ≡ unsigned_abs q = magnitude_is c.unsigned_abs-q.result c.coef-2.result q c.unsigned_abs-q.ensures.value c.coef-2.ensures.range c.coef-2.ensures.value in
    let p_small = magnitude_below c.unsigned_abs-p.result c.coef.result p p_is c.coef.ensures.value c.coef.ensures.range in
    let q_small = magnitude_below c.unsigned_abs-q.result c.coef-2.result q q_is c.coef-2.ensures.value c.coef-2.ensures.range in
    let g_is : c.gcd-common.result ≡ gcd_of (unsigned_abs p) (unsigned_abs q) = rw (← p_is, ← q_is) c.gcd-common.ensures.value in
    let a_is = divided_is c.unsigned_abs-q.result c.gcd-common.result (unsigned_abs q) (gcd_of (unsigned_abs p) (unsigned_abs q)) q_small q_is g_is in
    let b_is = divided_is c.unsigned_abs-p.result c.gcd-common.result (unsigned_abs p) (gcd_of (unsigned_abs p) (unsigned_abs q)) p_small p_is g_is in
    cc
