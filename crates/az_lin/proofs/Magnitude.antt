-- Bounds on the magnitude of sums and products.
use Rattle.std.proofs.Common.{◌+◌, ◌^◌, ◌≤◌, arith, unsigned_abs, ℤ, ◌+ℤ◌, ◌*ℤ◌}
use Rattle.std.proofs.lemmas.Int.{ints, unsigned_abs-mul}
use Rattle.std.proofs.lemmas.Nat.{mul-le}
use Rattle.az_lin.specs.Affine.{IsEntry}

pub unsigned_abs-add : (a b : ℤ) → unsigned_abs (a +ℤ b) ≤ unsigned_abs a + unsigned_abs b
unsigned_abs-add a b = omega (arith, ints)

pub product_of_entries : (a b : ℤ) → IsEntry a → IsEntry b → unsigned_abs (a *ℤ b) ≤ 2 ^ 120
product_of_entries a b p q =
    rw unsigned_abs-mul (mul-le (unsigned_abs a) (unsigned_abs b) (2 ^ 60) (2 ^ 60) (omega arith) (omega arith))
