use Rattle.std.proofs.Common.{◌∙◌, ap, arith, pos, unsigned_abs, ◌<◌, ◌^◌, FitsSigned, rules, ◌<ℤ◌, ◌≤ℤ◌}
use Rattle.std.specs.Int.{w128}
use Rattle.std.proofs.lemmas.Int.{ints, to_z-of_z, fits_signed_from_abs}
use Rattle.loop_scan.specs.Nest.Levels.{narrowed}
use Rattle.loop_scan.proofs.Words.{negation_fits, raised, lowered}
use Rattle.loop_scan.proofs.bound.Bound.narrowed.Goals as goal

pub overflow_sub-floor : goal.overflow_sub-floor
overflow_sub-floor c =
    let coef = c.args.self.now.coef in
    let entry : unsigned_abs coef < 2 ^ 60 = c.requires.bound.entry in
    let coef_fits : FitsSigned w128 coef = fits_signed_from_abs w128 coef (omega arith) in
    let positive : pos 0 <ℤ coef = omega (arith, ints, c.if-self-gt0.true, to_z-of_z w128 coef coef_fits) in
    let small : unsigned_abs c.value-rest.result < 2 ^ 107 = c.value-rest.ensures.range in
    negation_fits c.value-rest.result coef c.floor.result small entry positive c.floor.ensures

pub returns-then-self-gt0 : goal.returns-then-self-gt0
returns-then-self-gt0 c =
    let coef = c.args.self.now.coef in
    let entry : unsigned_abs coef < 2 ^ 60 = c.requires.bound.entry in
    let coef_fits : FitsSigned w128 coef = fits_signed_from_abs w128 coef (omega arith) in
    let positive : pos 0 <ℤ coef = omega (arith, ints, c.if-self-gt0.true, to_z-of_z w128 coef coef_fits) in
    let low : FitsSigned w128 c.args.range.now.low = search rules in
    let high : FitsSigned w128 c.args.range.now.high = search rules in
    let small : unsigned_abs c.value-rest.result < 2 ^ 107 = c.value-rest.ensures.range in
    let fits : FitsSigned w128 c.greater.result = search rules in
    raised c.value-rest.result coef c.floor.result small entry positive c.floor.ensures c.args.range.now low high c.greater.result fits c.greater.ensures
    ∙ ap (λ v. narrowed coef v c.args.range.now) c.value-rest.ensures.value

pub returns-else-self-gt0 : goal.returns-else-self-gt0
returns-else-self-gt0 c =
    let coef = c.args.self.now.coef in
    let entry : unsigned_abs coef < 2 ^ 60 = c.requires.bound.entry in
    let coef_fits : FitsSigned w128 coef = fits_signed_from_abs w128 coef (omega arith) in
    let negative : coef ≤ℤ pos 0 = omega (arith, ints, c.if-self-gt0.false, to_z-of_z w128 coef coef_fits) in
    let low : FitsSigned w128 c.args.range.now.low = search rules in
    let high : FitsSigned w128 c.args.range.now.high = search rules in
    let small : unsigned_abs c.value-rest.result < 2 ^ 107 = c.value-rest.ensures.range in
    let fits : FitsSigned w128 c.lesser.result = search rules in
    let floor_fits : FitsSigned w128 c.floor-else-self-gt0.result = search rules in
    lowered c.value-rest.result coef c.floor-else-self-gt0.result small entry negative c.floor-else-self-gt0.ensures c.args.range.now low high c.lesser.result fits floor_fits c.lesser.ensures
    ∙ ap (λ v. narrowed coef v c.args.range.now) c.value-rest.ensures.value
