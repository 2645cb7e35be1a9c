-- The value of a difference of rows.
use Rattle.std.proofs.Common.{◌≡◌, arith, ℤ, ◌-ℤ◌, ◌*ℤ◌, List, [], ◌∷◌, refl}
use Rattle.std.proofs.lemmas.Int.{ints}
use Rattle.az_lin.specs.Affine.{Affine, dot, value_at}
use Rattle.az_lin.specs.Difference.{differences, apart_by}
use Rattle.az_lin.proofs.Integers.{add-mul_int}
use Rattle.az_lin.proofs.Negation.{neg_mul, dot-negated}
use lib.IntN.{neg_ℤ}

less_mul : (a b x : ℤ) → (a -ℤ b) *ℤ x ≡ (a *ℤ x) -ℤ (b *ℤ x)
less_mul a b x = omega (arith, ints, add-mul_int a (neg_ℤ b) x, neg_mul b x)

pub dot-differences : (xs ys z : List ℤ) → dot (differences xs ys) z ≡ dot xs z -ℤ dot ys z
dot-differences [] ys z = omega (arith, ints, dot-negated ys z)
dot-differences (x ∷ xs) [] z = omega (arith, ints)
dot-differences (x ∷ xs) (y ∷ ys) [] = refl
dot-differences (x ∷ xs) (y ∷ ys) (c ∷ z) = omega (arith, ints, less_mul x y c, dot-differences xs ys z)

pub value_at-apart_by : (less : ℤ) (left right : Affine) (z : List ℤ) → value_at (apart_by less left right) z ≡ (value_at left z -ℤ value_at right z) -ℤ less
value_at-apart_by less left right z = omega (arith, ints, dot-differences left.coefs right.coefs z)
