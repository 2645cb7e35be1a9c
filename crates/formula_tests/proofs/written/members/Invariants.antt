use Rattle.std.specs.Prelude.{All}
use Rattle.formula_tests.specs.Over.{IsFormulaOver}
use Rattle.formula_tests.proofs.written.members.Given as goal

abbrev pub invariant-loop : goal.invariant-loop
invariant-loop l = All (IsFormulaOver l.width) l.made.items × All (IsFormulaOver l.width) l.members
