use Rattle.std.proofs.Common.{ap, ◌∙◌, ◌≡◌, get_or, ℤ, pos, SFits, to_z, of_z, rules}
use Rattle.std.proofs.lemmas.Int.{to_z-of_z}
use Rattle.std.specs.Int.{w128, int_div_euclid}
use Rattle.az_lin.proofs.WideSums.{map-more}
use Rattle.az_lin.proofs.exact_row.divide_each.Goals as goal

pub loop-number-preserved : goal.loop-number-preserved
loop-number-preserved c =
    let d = to_z w128 (of_z w128 c.args.divisor) in
    let i = c.loop-number.number-index in
    let x = get_or c.loop-number.numbers i (pos 0) in
    let x_fits : SFits w128 x = search rules in
    let q_fits : SFits w128 c.div_euclid.result = search rules in
    let f = λ (number : ℤ). int_div_euclid number d in
    let z = to_z w128 (of_z w128 c.div_euclid.result) in
    let is : z ≡ f x = to_z-of_z w128 c.div_euclid.result q_fits ∙ c.div_euclid.ensures ∙ ap f (to_z-of_z w128 x x_fits) in
    map-more f c.args.numbers.now c.loop-number.numbers i z c.loop-number-test.true c.loop-number.invariant is
