use Rattle.std.proofs.Common.{◌≡◌, drop}
use Rattle.command_script.specs.Resolved.{first_unknown}
use Rattle.command_script.proofs.names.first_unknown.Given as goal

-- the sides that are left decide
abbrev pub invariant-sides : goal.invariant-sides
invariant-sides l = first_unknown l.scope (drop l.side-index l.sides) ≡ first_unknown l.scope l.sides
