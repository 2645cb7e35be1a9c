use Rattle.std.proofs.Common.{◌≡◌, ◌++◌, map, take}
use Rattle.std.specs.List.{flat_map}
use Rattle.expr_places.specs.Directions.{slope}
use Rattle.domain_check.proofs.directions.push_domain_slopes.Given as goal

abbrev pub invariant-conjs : goal.invariant-conjs
invariant-conjs l = l.slopes.items ≡ l.fn.slopes.items ++ map (slope l.own.outer l.own.extra) (flat_map (λ conj. conj.rows) (take l.conj-index l.conj-items))
