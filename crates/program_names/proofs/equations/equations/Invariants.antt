use Rattle.std.proofs.Common.{◌≡◌, take}
use Rattle.std.specs.Prelude.{map}
use Rattle.program_names.specs.Resolved.{equation_of}
use Rattle.program_names.proofs.equations.equations.Given as goal

abbrev pub invariant-items : goal.invariant-items
invariant-items l = l.made.items ≡ map (equation_of l.variables l.params) (take l.item-index l.equations)
