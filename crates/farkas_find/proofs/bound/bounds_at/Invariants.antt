use Rattle.std.proofs.Common.{◌≡◌, map, take, All}
use Rattle.az_lin.specs.RationalPoint.{IsWideAt}
use Rattle.farkas_find.specs.BackSubstitution.{bound_of, point_in, HasWideBound}
use Rattle.farkas_find.proofs.bound.bounds_at.Given as goal

abbrev pub invariant-rows : goal.invariant-rows
invariant-rows l = record {
  bounds : l.bounds.items ≡ map (bound_of l.gone.column (point_in l.found)) (take l.place l.gone.rows);
  wide : All (λ it. IsWideAt (point_in l.found) it.row) (take l.place l.gone.rows);
  ranges : All HasWideBound l.bounds.items;
}
