use Rattle.std.specs.List.{All}
use Rattle.az_lin.specs.Affine.{IsOver}
use Rattle.loop_scan_tests.proofs.system.domain.Given as goal

abbrev pub invariant-conjs : goal.invariant-conjs
invariant-conjs l = All (IsOver l.width) l.conjs.items
