use Rattle.std.proofs.Common.{◌≡◌, take}
use Rattle.std.specs.Prelude.{map}
use Rattle.command_script.specs.Resolved.{side_of}
use Rattle.command_script.proofs.sides.sides.Given as goal

abbrev pub invariant-rows : goal.invariant-rows
invariant-rows l = l.sides.items ≡ map side_of (take l.row-index l.rows)
