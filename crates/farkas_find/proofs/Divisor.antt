-- The greatest common divisor of numbers in range is in range.
use Rattle.std.proofs.Common.{◌≡◌, ℕ, zero, suc, ◌^◌, ◌<◌, ◌≤◌, arith, refl, List, [], ◌∷◌, unsigned_abs, ℤ}
use Rattle.std.specs.List.{All}
use Rattle.std.proofs.lemmas.List.Elements.{All-head, All-tail}
use Rattle.std.proofs.lemmas.Nat.Gcd.{le_of_dvd}
use Rattle.std.proofs.Math.Nat.{eq-zero_of_zero-dvd}
use Prim.Native.Nat.{◌∣◌}
use Rattle.az_lin.specs.Affine.{IsWide}
use Rattle.az_lin.specs.CommonDivisor.{gcd_of, gcd_of_all, last_divisor}
use Rattle.az_lin.proofs.DivisorLaws.{gcd_of-is_gcd}

gcd_of-zero : gcd_of 0 0 ≡ 0
unfolding gcd_of last_divisor
gcd_of-zero = refl

pub gcd_of-below : (a b n : ℕ) → a < n → b < n → gcd_of a b < n
gcd_of-below zero zero n p q = rw gcd_of-zero p
gcd_of-below zero (suc b) n p q =
    let h : gcd_of zero (suc b) ≤ suc b = le_of_dvd (omega arith) (gcd_of-is_gcd zero (suc b)).1 in omega arith
gcd_of-below (suc a) b n p q =
    let h : gcd_of (suc a) b ≤ suc a = le_of_dvd (omega arith) (gcd_of-is_gcd (suc a) b).0 in omega arith

pub gcd_of_all-wide : (zs : List ℤ) → All IsWide zs → gcd_of_all zs < 2 ^ 127
gcd_of_all-wide [] wide = omega arith
gcd_of_all-wide (z ∷ zs) wide =
    gcd_of-below (unsigned_abs z) (gcd_of_all zs) (2 ^ 127) (All-head IsWide z zs wide) (gcd_of_all-wide zs (All-tail IsWide z zs wide))

pub gcd_of-positive : (a b : ℕ) → 0 < a → 0 < gcd_of a b
gcd_of-positive a b p =
    elim (gcd_of a b) as (λ g. g ∣ a → 0 < g) [ zero ↦ λ d. absurd (omega (arith, eq-zero_of_zero-dvd d)) | suc n ↦ λ d. omega arith ] (gcd_of-is_gcd a b).0
