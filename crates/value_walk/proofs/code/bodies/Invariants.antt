use Rattle.value_walk.proofs.Codes.{AreCodesTo}
use Rattle.value_walk.proofs.code.bodies.Given as goal

abbrev pub invariant-variables : goal.invariant-variables
invariant-variables l = AreCodesTo l.program l.codes l.x
