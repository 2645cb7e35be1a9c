use Rattle.std.proofs.Common.{◌≡◌, ◌<◌, ◌∙◌, ap, arith, length, ℤ, SFits, to_z, of_z, rules}
use Rattle.std.proofs.lemmas.Int.{to_z-of_z}
use Rattle.std.specs.Int.{w128, int_div_euclid}
use Rattle.az_lin.proofs.WideSums.{map-more}
use Rattle.farkas_find.proofs.InPlace.{current}
use Rattle.farkas_find.proofs.found.divided.Goals as goal

pub nums-preserved : goal.nums-preserved
nums-preserved c =
    let f = λ (number : ℤ). int_div_euclid number c.args.divisor.now in
    let i = c.nums.place in
    let x = c.index.result.now in
    let inside : i < length c.args.nums.items = omega (arith, c.len-place-end.ensures) in
    let x_fits : SFits w128 x = search rules in
    let d_fits : SFits w128 c.args.divisor.now = search rules in
    let q_fits : SFits w128 c.div_euclid.result = search rules in
    let is : to_z w128 (of_z w128 c.div_euclid.result) ≡ f x =
    to_z-of_z w128 c.div_euclid.result q_fits ∙ c.div_euclid.ensures ∙ ap (int_div_euclid (to_z w128 (of_z w128 x))) (to_z-of_z w128 c.args.divisor.now d_fits)
    ∙ ap f (to_z-of_z w128 x x_fits) in
    map-more f c.args.nums.items c.nums.done.items i (to_z w128 (of_z w128 c.div_euclid.result)) inside c.nums.invariant (is ∙ ap f (current f c.args.nums.items c.nums.done.items i x inside c.nums.invariant c.index.ensures).0)
