use Rattle.std.proofs.Common.{◌≡◌, ◌++◌, take}
use Rattle.std.specs.Prelude.{map}
use Rattle.program_names.specs.Resolved.{variable_of}
use Rattle.program_names.proofs.variables.with_variables.Given as goal

abbrev pub invariant-items : goal.invariant-items
invariant-items l = l.more ≡ l.fn.variables ++ map (variable_of l.params l.role) (take l.declaration-index l.declarations)
