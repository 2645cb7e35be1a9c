use Rattle.std.proofs.Common.{◌≡◌, ◌++◌, take, drop}
use Rattle.command_script.specs.Resolved.{first_twice}
use Rattle.command_script.proofs.names.first_twice.Given as goal

-- the indices that are left decide, with those before them
abbrev pub invariant-indices : goal.invariant-indices
invariant-indices l = first_twice (l.params ++ take l.place l.indices) (drop l.place l.indices) ≡ first_twice l.params l.indices
