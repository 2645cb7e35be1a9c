use Rattle.std.proofs.Common.{◌≡◌, ◌+◌, map, All}
use Rattle.std.specs.List.{range_with_len}
use Rattle.az_lin.specs.Affine.{IsEntry}
use Rattle.farkas_check.specs.Directions.{coef_at}
use Rattle.domain_check.proofs.directions.slope.Given as goal

abbrev pub invariant-columns : goal.invariant-columns
invariant-columns l =
    (l.coefs.items ≡ map (λ j. coef_at l.row (l.own.outer + j)) (range_with_len 0 l.column)) × All IsEntry l.coefs.items
