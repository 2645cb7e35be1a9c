use Rattle.std.proofs.Common.{◌≡◌, take, map, All}
use Rattle.az_lin.specs.Affine.{HasEntryConj}
use Rattle.az_lin.specs.Columns.{conj_at_params}
use Rattle.row_columns.proofs.put.domain_at_params.Given as goal

abbrev pub invariant-conjs : goal.invariant-conjs
invariant-conjs l = record {
  so_far : l.disjuncts.items ≡ map (λ conj. conj_at_params l.params conj) (take l.conj-index l.own);
  entries : All HasEntryConj l.disjuncts.items;
}
