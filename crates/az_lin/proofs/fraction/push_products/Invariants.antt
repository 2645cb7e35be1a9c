use Rattle.std.proofs.Common.{◌≡◌, ◌++◌, ◌*ℤ◌, All, map, take, ℤ}
use Rattle.std.specs.Int.{int_div_euclid}
use Rattle.az_lin.specs.Affine.{IsWide}
use Rattle.az_lin.proofs.fraction.push_products.Given as goal

abbrev pub invariant-numbers : goal.invariant-numbers
invariant-numbers l = record {
  so_far : l.products.items ≡ l.fn.products.items ++ map (λ (c : ℤ). int_div_euclid c l.divisor *ℤ l.factor) (take l.number-index l.numbers);
  wide : All (λ (c : ℤ). IsWide (int_div_euclid c l.divisor *ℤ l.factor)) (take l.number-index l.numbers);
}
