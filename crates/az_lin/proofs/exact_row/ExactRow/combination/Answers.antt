use Rattle.std.proofs.Common.{SFits, rules}
use Rattle.std.proofs.lemmas.Int.{to_z-of_z}
use Rattle.std.specs.Int.{w128}
use Rattle.az_lin.proofs.WideSums.{wide_row_of_sums}
use Rattle.az_lin.proofs.exact_row.ExactRow.combination.Goals as goal

pub invariant_of-result : goal.invariant_of-result
invariant_of-result c =
    let fits : SFits w128 c.in-Some.konst = search rules in
    rw (to_z-of_z w128 c.in-Some.konst fits)
    (wide_row_of_sums c.args.weights.now.a c.args.left.now.coefs.now c.args.weights.now.b c.args.right.now.coefs.now _ _ c.in-Some-2.coefs.items c.in-Some.konst
    (rw c.in-Some-2.is at c.in_ok-coefs.ensures) c.in-Some.ensures)
