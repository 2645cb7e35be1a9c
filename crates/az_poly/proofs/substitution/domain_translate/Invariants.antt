use Rattle.std.proofs.Common.{◌≡◌, take, map, All}
use Rattle.az_lin.specs.Affine.{HasEntryConj}
use Rattle.az_poly.specs.Operations.{conj_moved}
use Rattle.az_poly.proofs.substitution.domain_translate.Given as goal

abbrev pub invariant-conjs : goal.invariant-conjs
invariant-conjs l = record {
  so_far : l.disjuncts.items ≡ map (λ conj. conj_moved l.v conj) (take l.conj-index l.own);
  entries : All HasEntryConj l.disjuncts.items;
}
