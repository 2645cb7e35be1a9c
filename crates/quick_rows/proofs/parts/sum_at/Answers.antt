use Rattle.std.proofs.Common.{arith, to_z}
use Rattle.std.specs.Int.{w64}
use Rattle.quick_rows.proofs.Sums.{sum-step}
use Rattle.quick_rows.proofs.parts.sum_at.Goals as goal

pub parts-preserved : goal.parts-preserved
parts-preserved c =
    sum-step c.args.parts.now c.args.z.now c.parts.part-index _ (to_z w64 c.parts.sum-bits) c.part_at-sum.result _ c.parts-test.true (omega arith)
    c.part_at-sum.ensures.value c.part_at-sum.ensures.small c.parts.invariant.whole c.parts.invariant.small
