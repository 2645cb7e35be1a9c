use Rattle.std.proofs.Common.{◌≡◌, ◌^◌, ◌≤◌, unsigned_abs, ◌*◌, drop, ◌+ℤ◌}
use Rattle.az_lin.specs.Affine.{dot}
use Rattle.az_lin.specs.Substitution.{entries}
use Rattle.az_lin.proofs.place.sum_at.Given as goal

-- what is added so far and what is left to add make the whole product
abbrev pub invariant-rows : goal.invariant-rows
invariant-rows l = record {
  whole : l.sum +ℤ dot (drop l.number l.weights) (drop l.number (entries l.place l.rows)) ≡ dot l.weights (entries l.place l.rows);
  small : unsigned_abs l.sum ≤ l.number * 2 ^ 120;
}
