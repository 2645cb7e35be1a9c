-- Rows on the way of a computation: entries within ±(2^127 - 1), sums of two scaled rows, and quotients.
use Rattle.std.specs.Prelude.{List, [], ◌∷◌, All, map, ℤ, ◌+ℤ◌, ◌*ℤ◌}
use Rattle.std.specs.Int.{int_div_euclid}
use Rattle.std.specs.List.{AllZip}
use Rattle.az_lin.specs.Affine.{Affine, IsWide}

pub record HasWideEntries (row : Affine) : Type 0 where
  pub coefficients : All IsWide row.coefs
  pub constant : IsWide row.konst

-- the sum `a x + b y` of two numbers, of two lists column by column, and of two rows
abbrev pub scaled_sum : ℤ → ℤ → ℤ → ℤ → ℤ
scaled_sum a x b y = (a *ℤ x) +ℤ (b *ℤ y)

abbrev pub scaled_sums : ℤ → List ℤ → ℤ → List ℤ → List ℤ
scaled_sums a [] b ys = []
scaled_sums a (x ∷ xs) b [] = []
scaled_sums a (x ∷ xs) b (y ∷ ys) = scaled_sum a x b y ∷ scaled_sums a xs b ys

abbrev pub combination : ℤ → Affine → ℤ → Affine → Affine
combination a left b right = record {
  coefs = scaled_sums a left.coefs b right.coefs;
  konst = scaled_sum a left.konst b right.konst;
}

-- both products and their sum are in range; for rows, in every column and at the constant
pub record IsWideSum (a x b y : ℤ) : Type 0 where
  pub left : IsWide (a *ℤ x)
  pub right : IsWide (b *ℤ y)
  pub total : IsWide (scaled_sum a x b y)

pub record IsWideCombination (a : ℤ) (left : Affine) (b : ℤ) (right : Affine) : Type 0 where
  pub coefficients : AllZip (λ x y. IsWideSum a x b y) left.coefs right.coefs
  pub constant : IsWideSum a left.konst b right.konst

-- the row divided by a positive number, each entry rounded down
abbrev pub quotient : Affine → ℤ → Affine
quotient row divisor = record {
  coefs = map (λ coef. int_div_euclid coef divisor) row.coefs;
  konst = int_div_euclid row.konst divisor;
}
