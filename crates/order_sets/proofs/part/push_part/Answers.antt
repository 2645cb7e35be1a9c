use Rattle.std.proofs.Common.{◌++◌, List, ap, ◌∙◌, arith}
use Rattle.az_lin.specs.Affine.{Affine}
use Rattle.order_sets.specs.Rows.{is_in_part}
use Rattle.order_sets.proofs.Places.{part_more, part_whole}
use Rattle.order_sets.proofs.part.push_part.Goals as goal

pub kinds-preserved : goal.kinds-preserved
kinds-preserved c =
    part_more (is_in_part c.args.which) c.args.kinds.now c.args.rows.now c.kinds.place _ c.index-rows-place.result c.args.picked.now.items c.kinds.picked.items c.push_if.new.picked.items
    (omega arith) (omega arith) c.index-rows-place.is c.kinds.invariant c.in_ok-push_if.ensures

pub returns : goal.returns
returns c =
    c.kinds.invariant
    ∙ ap (λ (rows : List Affine). c.args.picked.now.items ++ rows) (part_whole (is_in_part c.args.which) c.args.kinds.now c.args.rows.now c.kinds.place (omega arith))
