use Rattle.std.proofs.Common.{◌≡◌, take, map}
use Rattle.az_lin.specs.Columns.{widened_conj}
use Rattle.row_columns.proofs.widen.widened_domain.Given as goal

abbrev pub invariant-conjs : goal.invariant-conjs
invariant-conjs l = l.disjuncts.items ≡ map (λ conj. widened_conj l.place l.count conj) (take l.conj-index l.own)
