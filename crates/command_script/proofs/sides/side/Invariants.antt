use Rattle.std.proofs.Common.{◌≡◌, take}
use Rattle.std.specs.Prelude.{map}
use Rattle.command_script.specs.Resolved.{side_term}
use Rattle.command_script.proofs.sides.side.Given as goal

abbrev pub invariant-terms : goal.invariant-terms
invariant-terms l = l.terms.items ≡ map side_term (take l.term-index l.row)
