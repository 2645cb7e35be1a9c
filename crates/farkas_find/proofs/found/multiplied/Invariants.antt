use Rattle.std.proofs.Common.{◌≡◌, ◌++◌, ◌*ℤ◌, ℤ, map, take, drop, All}
use Rattle.az_lin.specs.Affine.{IsWide}
use Rattle.farkas_find.proofs.found.multiplied.Given as goal

abbrev pub invariant-nums : goal.invariant-nums
invariant-nums l = record {
  done : l.done.items ≡ map (λ (number : ℤ). l.factor *ℤ number) (take l.place l.fn.nums.items) ++ drop l.place l.fn.nums.items;
  wide : All (λ (number : ℤ). IsWide (l.factor *ℤ number)) (take l.place l.fn.nums.items);
}
