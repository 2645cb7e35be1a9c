use Rattle.std.proofs.Common.{◌<◌, pos, length, get_or, sym, ◌∙◌, arith}
use Rattle.plan_cells.specs.declared.side.Side.{Side}
use Rattle.plan_cells.proofs.Boxes.{row-more}
use Rattle.plan_cells.proofs.Coordinates.{reduced-long, inside, lie-rest, volume-less}
use Rattle.az_lin.specs.Affine.{image_of, value_at}
use Rattle.std.proofs.lemmas.List.{length-map}
use Rattle.plan_words.specs.Cells.{all_reduced}
use Rattle.plan_cells.proofs.numbers.+place_from.Goals as goal

abbrev none : Side
none = record { low = pos 0; size = 0 }

pub place_from-place-requires : goal.place_from-place-requires
place_from-place-requires t c =
    let xs = all_reduced c.args.storage.now.factors (image_of c.args.storage.now.map c.args.z.now) in
    let within : c.args.number < length c.args.sides.now = omega (arith, c.if-number-sides.false) in
    let less = volume-less c.args.sides.now xs c.args.number none within c.requires.lie in (
      omega (arith, c.decreases, within),
      (c.requires.rows, (c.requires.width, (c.requires.narrow, (c.requires.range, (lie-rest c.args.sides.now xs c.args.number none within c.requires.lie, omega (arith, less, c.requires.few)))))),
    )

pub coordinate_at-requires-clause-declared : goal.coordinate_at-requires-clause-declared
coordinate_at-requires-clause-declared t c =
    let xs = all_reduced c.args.storage.now.factors (image_of c.args.storage.now.map c.args.z.now) in
    let within : c.args.number < length c.args.sides.now = omega (arith, c.if-number-sides.false) in
    let here = inside c.args.sides.now xs c.args.number none within c.requires.lie in
    let long = reduced-long c.args.storage.now.factors (image_of c.args.storage.now.map c.args.z.now) (c.requires.rows ∙ sym (length-map c.args.storage.now.map.rows (λ row. value_at row c.args.z.now))) in
    omega (arith, here, long)

pub returns-clause-below : goal.returns-clause-below
returns-clause-below t c =
    let more = row-more c.steps_along-steps.result (get_or c.args.sides.now c.args.number none).size c.place_from-place.result.1 c.steps_along-steps.ensures.below in
    omega (arith, more, c.place_from-place.ensures.below)
