use Rattle.std.proofs.Common.{◌≡◌, ◌^◌, ◌≤◌, unsigned_abs, ◌*◌, drop, ◌+ℤ◌}
use Rattle.az_lin.specs.Affine.{dot}
use Rattle.az_lin.proofs.scalar.scalar_product.Given as goal

-- what is added so far and what is left to add make the whole product
abbrev pub invariant-columns : goal.invariant-columns
invariant-columns l = record {
  whole : l.sum +ℤ dot (drop l.column l.left) (drop l.column l.right) ≡ dot l.left l.right;
  small : unsigned_abs l.sum ≤ l.column * 2 ^ 120;
}
