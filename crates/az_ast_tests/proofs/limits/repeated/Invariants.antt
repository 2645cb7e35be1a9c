use Rattle.std.proofs.Common.{◌≡◌, length}
use Rattle.std.specs.Prelude.{All}
use Rattle.az_lin.specs.Affine.{IsOver}
use Rattle.az_ast_tests.proofs.limits.repeated.Given as goal

abbrev pub invariant-conjs : goal.invariant-conjs
invariant-conjs l = (length l.conjs ≡ l.number) × All (IsOver l.width) l.conjs
