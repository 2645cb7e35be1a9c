use Rattle.std.proofs.Common.{◌≡◌, drop}
use Rattle.data_commands.specs.Outputs.{untabled}
use Rattle.data_commands.proofs.outputs.untabled.Given as goal

abbrev pub invariant-variables : goal.invariant-variables
invariant-variables l = untabled l.inputs (drop l.x l.variables) l.x ≡ untabled l.inputs l.variables 0
