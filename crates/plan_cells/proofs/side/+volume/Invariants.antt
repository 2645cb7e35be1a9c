use Rattle.std.proofs.Common.{length}
use Rattle.plan_cells.proofs.side.+volume.Given as goal

abbrev pub decreases-volume : goal.decreases-volume
decreases-volume l = length l.sides.now
