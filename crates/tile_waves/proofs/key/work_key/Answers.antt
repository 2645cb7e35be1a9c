use Rattle.std.proofs.Common.{rules}
use Rattle.tile_waves.proofs.Columns.{work_made}
use Rattle.tile_waves.proofs.key.work_key.Goals as goal

pub returns : goal.returns
returns c =
    work_made c.args.mapping.now c.args.times.now c.kinds-kinds.result.now c.kinds-kinds.ensures.value c.args.variable _ c.push.new.key.items c.push-2.new.key.items c.push-3.new.key.items
    c.push-4.new.self.items c.push-5.new.self.items c.extend_from_slice.new.self.items c.args.point.now _ c.from.result c.from-2.result
    c.new-key.ensures.items c.in_ok-push.ensures c.in_ok-push-2.ensures c.in_ok-push-3.ensures (search rules) (search rules) (search rules) (search rules)
    c.in_ok-extend_from_slice.ensures.items c.from_vec.ensures
