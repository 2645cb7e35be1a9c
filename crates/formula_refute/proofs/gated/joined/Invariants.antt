use Rattle.std.proofs.Common.{◌≡◌, take, drop, length}
use Rattle.formula_refute.specs.Inner.Shares.{InTurn}
use Rattle.formula_refute.proofs.FrontSteps.{AllRefuted}
use Rattle.formula_refute.proofs.gated.joined.Given as goal

abbrev pub invariant-cases : goal.invariant-cases
invariant-cases g l = record {
  refuted : AllRefuted (take l._case (g.C.CaseList.list l.cases)) l.derivations.items;
  count : length l.shares.items ≡ length l.fn.shares.items;
  turn : InTurn (length l.fn.shares.items) (drop l._case (g.C.CaseList.list l.cases)) l.shares.items;
}
