use Rattle.std.proofs.Common.{◌≡◌, take, drop, []}
use Rattle.target_map.specs.Refusals.{repeated}
use Rattle.target_map.proofs.checks.repeated.Given as goal

abbrev pub invariant-statements : goal.invariant-statements
invariant-statements l = repeated (take l.place l.statements) (drop l.place l.statements) ≡ repeated [] l.statements
