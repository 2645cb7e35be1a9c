use Rattle.std.proofs.Common.{◌≡◌, ◌++◌, map, take}
use Rattle.std.specs.List.{flat_map}
use Rattle.expr_places.specs.Directions.{slope}
use Rattle.domain_check.specs.Directions.{rows_of}
use Rattle.domain_check.proofs.directions.push_slopes_around.Given as goal

abbrev pub invariant-domains : goal.invariant-domains
invariant-domains l =
    l.slopes.items ≡ l.fn.slopes.items ++ map (slope l.own.outer l.own.extra) (flat_map rows_of (map (λ domain. domain.now) (take l.domain-index l.around)))
