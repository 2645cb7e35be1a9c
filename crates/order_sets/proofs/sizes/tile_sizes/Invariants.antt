use Rattle.std.proofs.Common.{◌≡◌, take}
use Rattle.target_map.specs.Kinds.{tile_sizes}
use Rattle.order_sets.proofs.sizes.tile_sizes.Given as goal

abbrev pub invariant-kinds : goal.invariant-kinds
invariant-kinds l = l.sizes.items ≡ tile_sizes (take l.kind-index l.kinds)
