-- What stands behind a row that is ready for its values. No public clause cites these words.
use Rattle.std.specs.Prelude.{◌≡◌, ◌≤◌, ◌<◌, ◌^◌, ℕ, ℤ, pos, ◌+◌, ◌+ℤ◌, ◌*ℤ◌, Bool, true, List, [], ◌∷◌, length, All, slice_index_or, unsigned_abs}
use Rattle.az_lin.specs.Affine.{Affine, dot}
use Rattle.quick_rows.specs.declared.parts.Part.{Part}

abbrev pub IsFactor : ℤ → Type 0
IsFactor factor = unsigned_abs factor < 2 ^ 16

-- the sum of some columns of a point, each times its factor
abbrev pub parts_at : List Part → List ℤ → ℤ
parts_at [] z = pos 0
parts_at (part ∷ parts) z = (part.factor *ℤ slice_index_or z part.column (pos 0)) +ℤ parts_at parts z

pub record IsPart (width : ℕ) (part : Part) : Type 0 where
  pub column : part.column < width
  pub factor : IsFactor part.factor

-- a column more in the sum
pub record AddsPart (column : ℕ) (coef : ℤ) (before after : List Part) : Type 0 where
  pub each : (width : ℕ) → column < width → All (IsPart width) before → All (IsPart width) after
  pub few : length after ≤ length before + 1
  pub sum : (z : List ℤ) → parts_at after z ≡ parts_at before z +ℤ (coef *ℤ slice_index_or z column (pos 0))

-- the parts have the sum of all columns
pub record AreParts (coefs : List ℤ) (parts : List Part) : Type 0 where
  pub each : All (IsPart (length coefs)) parts
  pub few : length parts ≤ length coefs
  pub same : (z : List ℤ) → length z ≡ length coefs → parts_at parts z ≡ dot coefs z

pub record IsQuick (row : Affine) (narrow : Bool) (parts : List Part) (konst : ℤ) : Type 0 where
  pub constant : konst ≡ row.konst
  pub small : unsigned_abs konst < 2 ^ 60
  pub sums : narrow ≡ true → AreParts row.coefs parts
