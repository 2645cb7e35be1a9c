use Rattle.std.proofs.Common.{arith, rules}
use Rattle.std.specs.Prelude.{pos}
use Rattle.target_map.specs.declared.kind.Kind.TheVariants.{Outer}
use Rattle.tile_waves.proofs.Columns.{column_step, column_whole}
use Rattle.tile_waves.proofs.column.Column.push.Goals as goal

pub kinds-preserved : goal.kinds-preserved
kinds-preserved c =
    column_step c.args.self c.args.kinds.now c.args.times.now c.kinds.place Outer (pos 0) c.kinds.key.items c.push_entry.new.key.items _ c.entry.result (omega arith) (omega arith) (search rules) c.kinds.invariant
    c.in_ok-push_entry.ensures

pub returns : goal.returns
returns c = column_whole c.args.self c.args.kinds.now c.args.times.now c.kinds.place c.kinds.key.items _ (omega arith) c.kinds.invariant
