use Rattle.std.proofs.Common.{◌≡◌, ℤ, List, length, get_or, Some, ap, sym, ◌∙◌, arith, inr, refl}
use Rattle.std.specs.FinMap.{get}
use Rattle.std.proofs.lemmas.Int.{ints}
use Rattle.az_lin.specs.Affine.{Affine}
use Rattle.plan_cells.proofs.Coordinates.{coordinate-value, far-value, one-storage}
use Rattle.plan_cells.proofs.numbering.Kept.coordinate.Goals as goal
use Rattle.plan_cells.proofs.numbering.Kept.coordinate.Goals.{then-value-via-then-value, then-value-via-else-value+then-value-gt-MOST_COORDINATE}

pub returns-then-value-clause-cause : goal.returns-then-value-clause-cause
returns-then-value-clause-cause c =
    let m = c.args.self.now.mapping.now in
    let z = c.args.z.now in
    let storage = c.in-Some.storage.now in
    let v : ℤ = c.value-value.result in
    let row = c.index-rows-number.result in
    let found : get m.storages c.args.variable ≡ Some storage = sym c.in-Some.ensures in
    let within = one-storage m c.args.variable (length z) c.args.number c.requires.stored storage found in
    let row_is : row ≡ get_or storage.map.rows c.args.number row = c.index-rows-number.is ∙ ap (λ (rs : List Affine). get_or rs c.args.number row) c.rows.ensures.value in
    let value = coordinate-value m c.args.variable z c.args.number storage found row within row_is v c.value-value.ensures.value in
    inr (
      refl,
      far-value m c.args.variable z c.args.number storage found within v value (λ small.
          elim c.then-value.branch [
            | then-value-via-then-value w ↦ let h = w.if-value.true in omega (arith, ints, small, h)
            | then-value-via-else-value+then-value-gt-MOST_COORDINATE w ↦ let h = w.if-value-gt-MOST_COORDINATE.true in omega (arith, ints, small, h)
          ]),
    )
