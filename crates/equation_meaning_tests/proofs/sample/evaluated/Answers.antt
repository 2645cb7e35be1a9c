use Rattle.std.proofs.Common.{subst}
use Rattle.az_ast.specs.System.{System}
use Rattle.value_walk.specs.Meanings.{HaveInputs}
use Rattle.equation_meaning_tests.proofs.sample.evaluated.Goals as goal

pub evaluate-requires-clause-inputs : goal.evaluate-requires-clause-inputs
evaluate-requires-clause-inputs c = subst (λ (q : System). HaveInputs q c.in-Ok.inputs c.args.params.now) c.program-program.ensures.value c.in-Ok.ensures
