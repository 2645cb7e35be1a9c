use Rattle.std.proofs.Common.{◌-◌, length}
use Rattle.plan_cells.proofs.numbers.+place_from.Given as goal

abbrev pub decreases-place_from : goal.decreases-place_from
decreases-place_from l = length l.sides.now - l.number
