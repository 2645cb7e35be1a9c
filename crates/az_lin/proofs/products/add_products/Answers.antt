use Rattle.std.proofs.Common.{◌<◌, length, get_or, ℤ, pos, subst, to_z, of_z, SFits, rules, arith}
use Rattle.std.proofs.lemmas.Int.{to_z-of_z as back}
use Rattle.std.proofs.Common.{to_z-of_z}
use Rattle.std.specs.Int.{w128}
use Rattle.az_lin.proofs.AddedProducts.{SoFar, SoFar-more, narrow_sum}
use Rattle.az_lin.proofs.products.add_products.Goals as goal

pub returns-in_default-wide_sum : goal.returns-in_default-wide_sum
returns-in_default-wide_sum c =
    let here : c.columns.column < length c.args.nums.now = omega arith in
    let x_fits : SFits w128 (get_or c.args.coefs.now c.columns.column (pos 0)) = search rules in
    let y_fits : SFits w128 (get_or c.args.nums.now c.columns.column (pos 0)) = search rules in
    let product_fits : SFits w128 c.in-Some.product = search rules in
    let one = simp to_z-of_z at c.in-Some.ensures in
    let none = simp to_z-of_z at c.in_default-wide_sum.ensures in
    let P : ℤ → Type 0 = λ z. SoFar z c.args.coefs.now c.args.nums.now (to_z w128 c.columns.sum-bits) c.columns.column in
    let before = subst P (back w128 c.args.start c.ranges.start) c.columns.invariant in
    narrow_sum c.args.start c.args.coefs.now c.args.nums.now (to_z w128 c.columns.sum-bits) c.columns.column c.in-Some.product c.columns-test.true here before one.1 none

pub columns-preserved : goal.columns-preserved
columns-preserved c =
    let here : c.columns.column < length c.args.nums.now = omega arith in
    let x_fits : SFits w128 (get_or c.args.coefs.now c.columns.column (pos 0)) = search rules in
    let y_fits : SFits w128 (get_or c.args.nums.now c.columns.column (pos 0)) = search rules in
    let product_fits : SFits w128 c.in-Some.product = search rules in
    let next_fits : SFits w128 c.in-Some-wide_sum.next = search rules in
    let one = simp to_z-of_z at c.in-Some.ensures in
    let two = simp to_z-of_z at c.in-Some-wide_sum.ensures in
    rw (back w128 c.in-Some-wide_sum.next next_fits)
    (SoFar-more (to_z w128 (of_z w128 c.args.start)) c.args.coefs.now c.args.nums.now (to_z w128 c.columns.sum-bits) c.columns.column c.in-Some.product c.in-Some-wide_sum.next
    c.columns-test.true here c.columns.invariant one two)
