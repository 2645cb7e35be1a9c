use Rattle.std.proofs.Common.{take}
use Rattle.formula_refute.proofs.FrontSteps.{AllRefuted}
use Rattle.formula_refute.proofs.front.front_of.Given as goal

abbrev pub invariant-cases : goal.invariant-cases
invariant-cases g l = AllRefuted (take l.number (g.C.CaseList.list l.cases)) l.derivations.items
