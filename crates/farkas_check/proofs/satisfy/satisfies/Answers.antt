use Rattle.std.proofs.Common.{◌≡◌, ◌<◌, ◌≤◌, List, length, get_or, pos, ◌<ℤ◌, refl, subst, arith, rules}
use Rattle.std.proofs.lemmas.Int.{ints}
use Rattle.az_lin.specs.Affine.{Affine}
use Rattle.farkas_check.proofs.Points.{met_more, Satisfies-from_met}
use Rattle.farkas_check.proofs.satisfy.satisfies.Goals as goal

pub loop-row-preserved : goal.loop-row-preserved
loop-row-preserved c =
    let i = c.loop-row.row-index in
    let row = c.row-item.result in
    let P : List Affine → Type 0 = λ rows. i < length rows in
    let Q : List Affine → Type 0 = λ rows. row ≡ get_or rows i row in
    let listed = c.rows-row-items.ensures.value in
    met_more c.args.point.now c.args.system.now.rows i row (subst P listed c.loop-row-test.true) (subst Q listed c.row-item.is) c.loop-row.invariant
    (c.is_met.ensures.0 c.if-not-is_met.false)

pub returns : goal.returns
returns c =
    let P : List Affine → Type 0 = λ rows. length rows ≤ c.loop-row.row-index in
    let width : length c.args.point.now.nums ≡ c.args.system.now.width = search rules in
    let positive : pos 0 <ℤ c.args.point.now.den = omega (arith, ints) in
    (λ _. Satisfies-from_met c.args.system.now c.args.point.now c.loop-row.row-index width positive (subst P c.rows-row-items.ensures.value c.loop-row-test.false) c.loop-row.invariant, λ _. refl)
