-- Of a row and its negation exactly one is at least 0 at a whole point.
use Rattle.std.proofs.Common.{◌≡◌, ◌*◌, arith, ℤ, pos, ◌*ℤ◌, ◌-ℤ◌, List, [], ◌∷◌, map, ap, refl, ◌↔◌}
use Rattle.std.proofs.lemmas.Int.{ints, by_lt_z}
use borrow.Author.Differences.{up, down, neg_is}
use lib.IntN.{neg_ℤ}
use Rattle.az_lin.specs.Affine.{Affine, IsAtLeastZero, dot, value_at}
use Rattle.az_lin.specs.Negation.{negated}

pub neg_mul : (v c : ℤ) → neg_ℤ v *ℤ c ≡ neg_ℤ (v *ℤ c)
neg_mul v c =
    omega (arith, ints, ap (λ n. up c * n) (neg_is v).0, ap (λ n. down c * n) (neg_is v).0, ap (λ n. up c * n) (neg_is v).1, ap (λ n. down c * n) (neg_is v).1)

pub dot-negated : (cs z : List ℤ) → dot (map neg_ℤ cs) z ≡ neg_ℤ (dot cs z)
dot-negated [] z = refl
dot-negated (c ∷ cs) [] = refl
dot-negated (c ∷ cs) (x ∷ z) = omega (arith, ints, neg_mul c x, dot-negated cs z)

pub value_at-negated : (row : Affine) (z : List ℤ) → value_at (negated row) z ≡ neg_ℤ (value_at row z) -ℤ pos 1
value_at-negated row z = omega (arith, ints, dot-negated row.coefs z)

pub negated_holds : (row : Affine) (z : List ℤ) → IsAtLeastZero z (negated row) ↔ (IsAtLeastZero z row → ⊥)
negated_holds row z =
    let value : value_at (negated row) z ≡ neg_ℤ (value_at row z) -ℤ pos 1 = value_at-negated row z in (
      λ h g. omega (arith, ints, value, h, g),
      λ none. by_lt_z (value_at row z) (pos 0) (λ below. omega (arith, ints, value, below)) (λ above. absurd (none above)),
    )
