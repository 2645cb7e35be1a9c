use Rattle.std.proofs.Common.{◌≡◌, ◌++◌, length, map, reverse}
use Rattle.tile_waves.specs.Inner.Nested.{tiles_of}
use Rattle.tile_waves.proofs.ordering.nested.Given as goal

abbrev pub invariant-groups : goal.invariant-groups
invariant-groups l = l.waves.items ++ map tiles_of (reverse l.left.items) ≡ map tiles_of (reverse l.initial.left.items)

abbrev pub decreases-groups : goal.decreases-groups
decreases-groups l = length l.left.items
