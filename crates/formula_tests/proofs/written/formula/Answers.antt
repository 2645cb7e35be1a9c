use Rattle.std.proofs.lemmas.List.Elements.{All-pop}
use Rattle.std.proofs.Common.{Some}
use Rattle.formula_tests.specs.Over.{IsFormulaOver}
use Rattle.formula_tests.proofs.written.formula.Goals as goal

pub returns-in-Some : goal.returns-in-Some
returns-in-Some c = (All-pop (IsFormulaOver c.args.width) c.loop-place.made.items c.pop.new.self.items (Some c.in-Some.formula) c.in-Some.ensures.items c.loop-place.invariant).1
