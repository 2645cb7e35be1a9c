use Rattle.std.proofs.Common.{ℕ, ◌<◌}
use Rattle.equation_meaning_tests.specs.Inputs.{HasInput}
use Rattle.equation_meaning_tests.proofs.inputs.inputs_of.Given as goal

abbrev pub invariant-variables : goal.invariant-variables
invariant-variables l = (y : ℕ) → y < l.x → HasInput l.program l.inputs l.params y
