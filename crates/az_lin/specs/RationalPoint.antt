-- A rational point: whole numbers over one positive denominator. A row is evaluated over that denominator, so exactly.
use Rattle.std.specs.Prelude.{◌≡◌, List, [], ◌∷◌, length, All, ℤ, pos, ◌+ℤ◌, ◌*ℤ◌, ◌≤ℤ◌, ◌<ℤ◌}
use Rattle.az_lin.specs.Affine.{Affine, Polyhedron, IsWide, dot}
use Rattle.az_lin.specs.declared.step.RatPoint.{RatPoint}

-- the denominator times the row's value at the point
abbrev pub value_over : Affine → RatPoint → ℤ
value_over row point = (row.konst *ℤ point.den) +ℤ dot row.coefs point.nums

-- each product, added to what is there so far, stays in range, and so does the product
abbrev pub AddsWide : ℤ → List ℤ → List ℤ → Type 0
AddsWide sum [] ys = Unit {0}
AddsWide sum (x ∷ xs) [] = Unit {0}
AddsWide sum (x ∷ xs) (y ∷ ys) = IsWide (x *ℤ y) × IsWide (sum +ℤ (x *ℤ y)) × AddsWide (sum +ℤ (x *ℤ y)) xs ys

-- the row's evaluation stays in range: first the constant, then the products in the order of the columns
pub record IsWideAt (point : RatPoint) (row : Affine) : Type 0 where
  pub constant : IsWide (row.konst *ℤ point.den)
  pub products : AddsWide (row.konst *ℤ point.den) row.coefs point.nums

pub record Satisfies (system : Polyhedron) (point : RatPoint) : Type 0 where
  pub width : length point.nums ≡ system.width
  pub positive : pos 0 <ℤ point.den
  pub in_range : All (IsWideAt point) system.rows
  pub satisfied : All (λ row. pos 0 ≤ℤ value_over row point) system.rows
