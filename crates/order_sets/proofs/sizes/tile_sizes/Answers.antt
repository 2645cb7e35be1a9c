use Rattle.std.proofs.Common.{arith}
use Rattle.order_sets.proofs.Places.{sizes_more}
use Rattle.order_sets.proofs.sizes.tile_sizes.Goals as goal

pub kinds-preserved : goal.kinds-preserved
kinds-preserved c = sizes_more c.args.kinds.now c.kinds.kind-index _ c.kinds.sizes.items c.push_size.new.sizes.items (omega arith) c.kinds.invariant c.in_ok-push_size.ensures
