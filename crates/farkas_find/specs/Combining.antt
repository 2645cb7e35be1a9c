-- Combining: a row with a positive and a row with a negative coefficient in a column give a row without that column.
use Rattle.std.specs.Prelude.{◌≡◌, ℕ, zero, suc, ◌+◌, ◌<◌, ◌/◌, Bool, true, false, not, ◌&&◌, ◌||◌, nat_eq, cond, List, [], ◌∷◌, length, map, filter, All}
use Rattle.std.specs.Prelude.{ℤ, pos, int_lt, unsigned_abs}
use Rattle.std.specs.List.{range_with_len, flat_map}
use Rattle.az_lin.specs.Affine.{Affine}
use Rattle.az_lin.specs.CommonDivisor.{gcd_of, gcd_of_all}
use Rattle.az_lin.specs.Combination.{combination, IsWideCombination}
use Rattle.az_lin.specs.declared.step.Step.{Step}
use Rattle.farkas_find.specs.Tidying.{row_at, coef_at, is_zero, rounded}
use Rattle.farkas_find.specs.declared.numbered.Numbered.{Numbered}
use Rattle.farkas_find.specs.declared.choice.Pair.{Pair}

abbrev pub is_positive : ℤ → Bool
is_positive z = int_lt (pos 0) z

abbrev pub is_negative : ℤ → Bool
is_negative z = int_lt z (pos 0)

abbrev pub has_sign : Bool → ℤ → Bool
has_sign positive z = cond positive (is_positive z) (is_negative z)

-- The least weights that cancel coefficients p above 0 and -q: q/h for the first row and p/h for the second, where h
-- is their greatest common divisor.
abbrev pub common_divisor : ℕ → Numbered → Numbered → ℕ
common_divisor column plus minus = gcd_of (unsigned_abs (coef_at column plus)) (unsigned_abs (coef_at column minus))

unfoldable pub plus_weight : ℕ → Numbered → Numbered → ℤ
plus_weight column plus minus = pos (unsigned_abs (coef_at column minus) / common_divisor column plus minus)

unfoldable pub minus_weight : ℕ → Numbered → Numbered → ℤ
minus_weight column plus minus = pos (unsigned_abs (coef_at column plus) / common_divisor column plus minus)

unfoldable pub sum_without : ℕ → Numbered → Numbered → Affine
sum_without column plus minus =
    combination (plus_weight column plus minus) plus.row (minus_weight column plus minus) minus.row

-- the row that two rows give, by one step of a derivation; its products and sums before the division
unfoldable pub combined : ℕ → Numbered → Numbered → Affine
combined column plus minus = rounded (sum_without column plus minus)

abbrev pub at_least_one : ℕ → ℕ
at_least_one zero = 1
at_least_one (suc n) = suc n

unfoldable pub combining_step : ℕ → Numbered → Numbered → Step
combining_step column plus minus = record {
  a = plus_weight column plus minus;
  i = plus.number;
  b = minus_weight column plus minus;
  j = minus.number;
  g = pos (at_least_one (gcd_of_all (sum_without column plus minus).coefs));
}

unfoldable pub Fits : ℕ → Numbered → Numbered → Type 0
Fits column plus minus =
    IsWideCombination (plus_weight column plus minus) plus.row (minus_weight column plus minus) minus.row

-- The places whose rows pass a test.
abbrev pub places_where : (Numbered → Bool) → List Numbered → List ℕ
places_where test rows = filter (λ place. test (row_at rows place)) (range_with_len 0 (length rows))

-- Which rows are combined, by their places, in order: each that is positive in the column with each that is negative
abbrev pub pairs_of : List ℕ → ℕ → List Pair
pairs_of minuses plus = map (λ minus. record { plus = plus; minus = minus }) minuses

unfoldable pub all_pairs : ℕ → List Numbered → List Pair
all_pairs column rows =
    flat_map (pairs_of (places_where (λ it. has_sign false (coef_at column it)) rows)) (places_where (λ it. has_sign true (coef_at column it)) rows)

-- or each other row with the column, with the row of a chosen pair that has the opposite sign there
unfoldable pub is_other : ℕ → Pair → List Numbered → ℕ → Bool
is_other column chosen rows place =
    not (is_zero (coef_at column (row_at rows place))) && not (nat_eq place chosen.plus || nat_eq place chosen.minus)

unfoldable pub partner : ℕ → Pair → List Numbered → ℕ → Pair
partner column chosen rows place =
    cond (is_positive (coef_at column (row_at rows place)))
    (record { plus = place; minus = chosen.minus }) (record { plus = chosen.plus; minus = place })

unfoldable pub pairs_with : ℕ → Pair → List Numbered → List Pair
pairs_with column chosen rows =
    map (partner column chosen rows) (filter (is_other column chosen rows) (range_with_len 0 (length rows)))

-- a pair of places of rows that are positive and negative in the column
pub record IsPair (column : ℕ) (rows : List Numbered) (pair : Pair) : Type 0 where
  pub plus_inside : pair.plus < length rows
  pub minus_inside : pair.minus < length rows
  pub positive : is_positive (coef_at column (row_at rows pair.plus)) ≡ true
  pub negative : is_negative (coef_at column (row_at rows pair.minus)) ≡ true

-- the rows that the pairs give, numbered on; their steps; and that all of them stay in range on the way
abbrev pub combined_at : ℕ → List Numbered → Pair → Affine
combined_at column rows pair = combined column (row_at rows pair.plus) (row_at rows pair.minus)

abbrev pub step_at : ℕ → List Numbered → Pair → Step
step_at column rows pair = combining_step column (row_at rows pair.plus) (row_at rows pair.minus)

abbrev pub FitsAt : ℕ → List Numbered → Pair → Type 0
FitsAt column rows pair = Fits column (row_at rows pair.plus) (row_at rows pair.minus)

unfoldable pub numbered_from : ℕ → List Affine → List Numbered
numbered_from next [] = []
numbered_from next (row ∷ rows) = record { row = row; number = next } ∷ numbered_from (next + 1) rows

-- every row has this many columns
abbrev pub HaveWidth : ℕ → List Numbered → Type 0
HaveWidth width rows = All (λ it. length it.row.coefs ≡ width) rows
