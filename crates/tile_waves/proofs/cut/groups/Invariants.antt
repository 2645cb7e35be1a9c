use Rattle.std.proofs.Common.{length}
use Rattle.tile_waves.specs.Inner.Cuts.{IsCutting}
use Rattle.tile_waves.proofs.cut.groups.Given as goal

abbrev pub invariant-items : goal.invariant-items
invariant-items l = IsCutting l.level l.initial.left.items l.left.items l.closed.items l.last.items

abbrev pub decreases-items : goal.decreases-items
decreases-items l = length l.left.items
