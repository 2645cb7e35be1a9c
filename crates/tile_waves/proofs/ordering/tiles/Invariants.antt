use Rattle.std.proofs.Common.{◌≡◌, ◌++◌, length, map, reverse}
use Rattle.tile_waves.specs.Inner.Items.{instances_of}
use Rattle.tile_waves.proofs.ordering.tiles.Given as goal

abbrev pub invariant-groups : goal.invariant-groups
invariant-groups l = l.tiles.items ++ map instances_of (reverse l.left.items) ≡ map instances_of (reverse l.initial.left.items)

abbrev pub decreases-groups : goal.decreases-groups
decreases-groups l = length l.left.items
