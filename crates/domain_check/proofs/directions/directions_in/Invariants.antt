use Rattle.std.proofs.Common.{◌≡◌, ◌++◌, map, take}
use Rattle.std.specs.List.{flat_map}
use Rattle.expr_places.specs.Directions.{slope}
use Rattle.formula_refute.specs.Claims.{claim}
use Rattle.domain_check.specs.Directions.{rows_of, along_each}
use Rattle.domain_check.proofs.directions.directions_in.Given as goal

abbrev pub invariant-disjuncts : goal.invariant-disjuncts
invariant-disjuncts l =
    map claim l.found.items
    ≡ flat_map (λ conj. along_each l.own.extra (map (slope l.own.outer l.own.extra) (flat_map rows_of (map (λ domain. domain.now) l.around) ++ conj.rows))) (take l.conj-index l.conj-items)
