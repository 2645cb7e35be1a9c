-- Words about inner functions, which no public contract cites.
use Rattle.std.specs.Prelude.{◌≡◌, ℕ, ◌+◌, ◌≤◌, ◌==◌, ℤ, IsTrue, List, ◌++◌, length, All}
use Rattle.az_lin.specs.Affine.{AffineMap, HasWidth, image_of}
use Rattle.az_lin.specs.Columns.{reading}
use Rattle.az_ast.specs.Term.{Term}
use Rattle.expr_maps.specs.Columns.{CanPut}

-- an access whose map can be composed with the basis, and a body into which the inverse can be put
abbrev pub CanMove : ℕ → ℕ → AffineMap → ℕ → AffineMap → Type 0
CanMove params target basis x f = IsTrue (x == target) → (params ≤ f.width) × (params + length f.rows ≡ basis.width) × (basis.width ≤ 64)

abbrev pub CanLead : ℕ → ℕ → AffineMap → ℕ → Term → Type 0
CanLead params target inverse x e = IsTrue (x == target) → (params ≤ inverse.width) × CanPut (reading params inverse) e

-- a map of the same size that leads back, for every choice of the parameters
pub record Undoes (params : ℕ) (basis inverse : AffineMap) : Type 0 where
  pub width : inverse.width ≡ basis.width
  pub rows : length inverse.rows ≡ length basis.rows
  pub widths : All (HasWidth inverse.width) inverse.rows
  pub undone : (ps k : List ℤ) → length ps ≡ params → length k ≡ length basis.rows → image_of inverse (ps ++ image_of basis (ps ++ k)) ≡ k
