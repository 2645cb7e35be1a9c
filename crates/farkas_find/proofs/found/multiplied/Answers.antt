use Rattle.std.proofs.Common.{◌≡◌, ◌<◌, ◌∙◌, ◌*ℤ◌, ap, subst, arith, length, ℤ, SFits, to_z, of_z, rules}
use Rattle.std.proofs.lemmas.Int.{to_z-of_z}
use Rattle.std.proofs.lemmas.List.Elements.{All-more}
use Rattle.std.specs.Int.{w128}
use Rattle.az_lin.specs.Affine.{IsWide}
use Rattle.az_lin.proofs.WideSums.{map-more}
use Rattle.farkas_find.proofs.InPlace.{current}
use Rattle.farkas_find.proofs.found.multiplied.Goals as goal

pub nums-preserved : goal.nums-preserved
nums-preserved c =
    let f = λ (number : ℤ). c.args.factor.now *ℤ number in
    let P : ℤ → Type 0 = λ number. IsWide (f number) in
    let xs = c.args.nums.items in
    let i = c.nums.place in
    let x = c.index.result.now in
    let inside : i < length xs = omega (arith, c.len-place-end.ensures) in
    let x_fits : SFits w128 x = search rules in
    let f_fits : SFits w128 c.args.factor.now = search rules in
    let p_fits : SFits w128 c.in-Some.product = search rules in
    let got = simp to_z-of_z at c.in-Some.ensures in
    let here = current f xs c.nums.done.items i x inside c.nums.invariant.done c.index.ensures in
    let is : to_z w128 (of_z w128 c.in-Some.product) ≡ f x = to_z-of_z w128 c.in-Some.product p_fits ∙ got.1 in
    record {
      done = map-more f xs c.nums.done.items i (to_z w128 (of_z w128 c.in-Some.product)) inside c.nums.invariant.done (is ∙ ap f here.0);
      wide = All-more P xs i x inside c.nums.invariant.wide (subst P here.1 got.0);
    }
