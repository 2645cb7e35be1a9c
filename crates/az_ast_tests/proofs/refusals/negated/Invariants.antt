use Rattle.az_ast.specs.Placed.{IsAtWidth}
use Rattle.az_ast.specs.Term.{term}
use Rattle.az_ast_tests.proofs.refusals.negated.Given as goal

abbrev pub invariant-times : goal.invariant-times
invariant-times l = IsAtWidth 2 (term l.e) 1
