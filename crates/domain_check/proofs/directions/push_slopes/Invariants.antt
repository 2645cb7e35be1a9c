use Rattle.std.proofs.Common.{◌≡◌, ◌++◌, map, take}
use Rattle.expr_places.specs.Directions.{slope}
use Rattle.domain_check.proofs.directions.push_slopes.Given as goal

abbrev pub invariant-rows : goal.invariant-rows
invariant-rows l = l.slopes.items ≡ l.fn.slopes.items ++ map (slope l.own.outer l.own.extra) (take l.row-index l.rows)
