use Rattle.std.proofs.Common.{◌≡◌, length}
use Rattle.az_ast_tests.proofs.limits.parameters.Given as goal

abbrev pub invariant-names : goal.invariant-names
invariant-names l = length l.names ≡ l.number
