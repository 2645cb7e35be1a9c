use Rattle.std.specs.List.{All}
use Rattle.az_lin.specs.Affine.{HasWidth}
use Rattle.loop_scan_tests.proofs.system.conj.Given as goal

abbrev pub invariant-rows : goal.invariant-rows
invariant-rows l = All (HasWidth l.width) l.rows.items
