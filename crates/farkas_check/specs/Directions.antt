-- A system over directions: only its last row has a constant. A refutation of it is a list of multipliers, under
-- which the coefficients vanish: no direction meets the rows and makes the last one's coefficients positive.
use Rattle.std.specs.Prelude.{◌≡◌, ℕ, ◌+◌, ◌-◌, ◌<◌, List, [], ◌∷◌, length, slice_index, slice_index_or, ℤ, pos, ◌+ℤ◌, ◌*ℤ◌}
use Rattle.az_lin.specs.Affine.{Affine}

abbrev pub coef_at : Affine → ℕ → ℤ
coef_at row column = slice_index_or row.coefs column (pos 0)

-- what the coefficients in a column add up to, each times the multiplier of its row
abbrev pub column_sum : List ℕ → List Affine → ℕ → ℤ
column_sum [] rows column = pos 0
column_sum (m ∷ ms) [] column = pos 0
column_sum (m ∷ ms) (row ∷ rows) column = (pos m *ℤ coef_at row column) +ℤ column_sum ms rows column

-- one multiplier for each row, the last one positive, and in every column the coefficients add up to 0
pub record BalancingMultipliers (rows : List Affine) : Type 0 where
  pub numbers : List ℕ
  pub count : length numbers ≡ length rows
  pub last : 0 < slice_index numbers (length rows - 1)
  pub balanced : (column : ℕ) → column_sum numbers rows column ≡ pos 0

abbrev pub HasConstantAtLastAlone : List Affine → Type 0
HasConstantAtLastAlone rows = (k : ℕ) (d : Affine) → k + 1 < length rows → (slice_index_or rows k d).konst ≡ pos 0
