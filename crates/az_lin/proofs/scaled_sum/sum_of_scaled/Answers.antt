use Rattle.std.proofs.Common.{SFits, to_z-of_z, rules}
use Rattle.std.specs.Int.{w128}
use Rattle.az_lin.proofs.WideSums.{SomeIff-wide_sum}
use Rattle.az_lin.proofs.scaled_sum.sum_of_scaled.Goals as goal

pub returns : goal.returns
returns c =
    let a_fits : SFits w128 c.args.weights.now.a = search rules in
    let b_fits : SFits w128 c.args.weights.now.b = search rules in
    let x_fits = c.ranges.x in
    let y_fits = c.ranges.y in
    let left_fits : SFits w128 c.in-Some.left = search rules in
    let right_fits : SFits w128 c.in-Some-wide_product.right = search rules in
    SomeIff-wide_sum c.args.weights.now.a c.args.x c.args.weights.now.b c.args.y c.in-Some.left c.in-Some-wide_product.right c.wide_sum.result
    (simp to_z-of_z at c.in-Some.ensures) (simp to_z-of_z at c.in-Some-wide_product.ensures) (simp to_z-of_z at c.wide_sum.ensures)
