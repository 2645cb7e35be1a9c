use Rattle.std.proofs.Common.{◌≡◌, arith, subst, length, get_or, ℤ, pos, ◌≤ℤ◌, ◌<ℤ◌, FitsSigned, ◌^◌, ◌<◌, unsigned_abs, ℕ, List}
use Rattle.std.specs.Int.{w128}
use Rattle.std.proofs.lemmas.Int.{ints, to_z-of_z, fits_signed_from_abs}
use Rattle.az_lin.specs.Affine.{value_at, dot}
use Rattle.loop_scan.proofs.Bounding.{dot-zeros}
use Rattle.loop_scan.proofs.nest.Nest.add.Goals as goal

abbrev AreZeros : List ℤ → Type 0
AreZeros cs = (k : ℕ) → k < length cs → get_or cs k (pos 0) ≡ pos 0

pub returns-then-konst-lt0-clause-points : goal.returns-then-konst-lt0-clause-points
returns-then-konst-lt0-clause-points c = λ y e.
    let row = c.args.row.now in
    let none : dot row.coefs y ≡ pos 0 = dot-zeros row.coefs y (subst AreZeros c.coefs.ensures.value c.in-None.ensures) in
    let small : unsigned_abs c.konst.result < 2 ^ 60 = c.konst.ensures.range in
    let fits : FitsSigned w128 c.konst.result = fits_signed_from_abs w128 c.konst.result (omega arith) in
    let negative : c.konst.result <ℤ pos 0 = omega (arith, ints, c.if-konst-lt0.true, to_z-of_z w128 c.konst.result fits) in
    (λ a. absurd (let f = a.0 in cc), λ a. absurd (let h : pos 0 ≤ℤ value_at row y = a.1 in omega (arith, ints, h, none, negative, c.konst.ensures.value)))

pub returns-else-konst-lt0-clause-points : goal.returns-else-konst-lt0-clause-points
returns-else-konst-lt0-clause-points c = λ y e.
    let row = c.args.row.now in
    let none : dot row.coefs y ≡ pos 0 = dot-zeros row.coefs y (subst AreZeros c.coefs.ensures.value c.in-None.ensures) in
    let small : unsigned_abs c.konst.result < 2 ^ 60 = c.konst.ensures.range in
    let fits : FitsSigned w128 c.konst.result = fits_signed_from_abs w128 c.konst.result (omega arith) in
    let nonneg : pos 0 ≤ℤ c.konst.result = omega (arith, ints, c.if-konst-lt0.false, to_z-of_z w128 c.konst.result fits) in
    let h : pos 0 ≤ℤ value_at row y = omega (arith, ints, none, nonneg, c.konst.ensures.value) in
    (λ a. (a, h), λ a. a.0)
