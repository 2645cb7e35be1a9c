use Rattle.std.proofs.Common.{◌≡◌, ◌-◌, length}
use Rattle.inline_eqs.specs.Removal.{used_from}
use Rattle.inline_eqs.proofs.removal.still_used.Given as goal

abbrev pub invariant-users : goal.invariant-users
invariant-users l = used_from l.program l.x l.y (length l.program.variables - l.y) ≡ used_from l.program l.x 0 (length l.program.variables)
