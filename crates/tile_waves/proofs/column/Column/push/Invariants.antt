use Rattle.std.proofs.Common.{◌≡◌, ◌++◌, drop}
use Rattle.tile_waves.specs.Inner.Columns.{column}
use Rattle.tile_waves.proofs.column.Column.push.Given as goal

abbrev pub invariant-kinds : goal.invariant-kinds
invariant-kinds l = l.key.items ++ column l.self (drop l.place l.kinds) (drop l.place l.times) ≡ l.initial.key.items ++ column l.self l.kinds l.times
