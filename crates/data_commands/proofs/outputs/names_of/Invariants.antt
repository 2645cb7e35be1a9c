use Rattle.std.proofs.Common.{◌≡◌, take}
use Rattle.std.specs.Prelude.{map}
use Rattle.data_commands.proofs.outputs.names_of.Given as goal

abbrev pub invariant-variables : goal.invariant-variables
invariant-variables l = l.names.items ≡ map (λ variable. variable.name) (take l.variable-index l.variables)
