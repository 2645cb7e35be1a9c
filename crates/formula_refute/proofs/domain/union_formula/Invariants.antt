use Rattle.std.proofs.Common.{◌≡◌, take, map}
use Rattle.std.specs.Prelude.{All}
use Rattle.formula_refute.specs.Claims.{claim, IsOver}
use Rattle.formula_refute.specs.Domains.{conj_claim}
use Rattle.formula_refute.proofs.domain.union_formula.Given as goal

abbrev pub invariant-disjuncts : goal.invariant-disjuncts
invariant-disjuncts l = record {
  made : map claim l.members.items ≡ map conj_claim (take l.conj-index l.disjuncts);
  widths : All (λ f. IsOver l.fn.width (claim f)) l.members.items;
}
