use Rattle.tile_waves.proofs.Columns.{tile_made}
use Rattle.tile_waves.proofs.key.tile_key.Goals as goal

pub returns : goal.returns
returns c =
    tile_made c.args.mapping.now c.args.times.now c.kinds-kinds.result.now c.kinds-kinds.ensures.value _ _ _ _
    c.new-key.ensures.items c.in_ok-push.ensures c.in_ok-push-2.ensures c.from_vec.ensures
