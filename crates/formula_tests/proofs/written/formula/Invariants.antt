use Rattle.std.specs.Prelude.{All}
use Rattle.formula_tests.specs.Over.{IsFormulaOver}
use Rattle.formula_tests.proofs.written.formula.Given as goal

abbrev pub invariant-loop-place : goal.invariant-loop-place
invariant-loop-place l = All (IsFormulaOver l.width) l.made.items
