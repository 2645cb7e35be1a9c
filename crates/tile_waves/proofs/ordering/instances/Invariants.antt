use Rattle.std.proofs.Common.{◌≡◌, ◌++◌, length, map, reverse}
use Rattle.tile_waves.specs.declared.item.Item.{Item}
use Rattle.tile_waves.proofs.ordering.instances.Given as goal

abbrev pub invariant-items : goal.invariant-items
invariant-items l = l.instances.items ++ map (λ (item : Item). item.instance) (reverse l.left.items) ≡ map (λ (item : Item). item.instance) (reverse l.initial.left.items)

abbrev pub decreases-items : goal.decreases-items
decreases-items l = length l.left.items
