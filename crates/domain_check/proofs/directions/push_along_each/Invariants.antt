use Rattle.std.proofs.Common.{◌≡◌, ◌++◌, map}
use Rattle.std.specs.List.{flat_map, range_with_len}
use Rattle.formula_refute.specs.Claims.{claim}
use Rattle.domain_check.specs.Directions.{both_ways}
use Rattle.domain_check.proofs.directions.push_along_each.Given as goal

abbrev pub invariant-indices : goal.invariant-indices
invariant-indices l = map claim l.found.items ≡ map claim l.fn.found.items ++ flat_map (both_ways l.extra l.slopes) (range_with_len 0 l.index)
