-- Affine rows over whole numbers, the maps and polyhedra made of them, and what they mean at a point.
-- A point is the list of its coordinates. A row's value at a point is the scalar product of its
-- coefficients with the point, plus its constant.
use Rattle.std.specs.Prelude.{◌≡◌, ℕ, ◌^◌, ◌<◌, List, [], ◌∷◌, length, All, Any, map}
use Rattle.std.specs.Prelude.{ℤ, pos, ◌+ℤ◌, ◌*ℤ◌, ◌≤ℤ◌, unsigned_abs}

-- a row: coefficients by column, and a constant
pub record Affine : Type 0 where
  pub coefs : List ℤ
  pub konst : ℤ

-- a map from points of `width` coordinates: one row for each coordinate of the image
pub record AffineMap : Type 0 where
  pub width : ℕ
  pub rows : List Affine

-- a conjunction: the points at which every row is at least 0
pub record Polyhedron : Type 0 where
  pub width : ℕ
  pub rows : List Affine

-- a union of polyhedra
pub record Union : Type 0 where
  pub width : ℕ
  pub disjuncts : List Polyhedron

-- the magnitudes allowed to a stored entry, to a coordinate, and to a number on the way
abbrev pub IsEntry : ℤ → Type 0
IsEntry z = unsigned_abs z < 2 ^ 60

abbrev pub IsCoordinate : ℤ → Type 0
IsCoordinate z = unsigned_abs z < 2 ^ 40

abbrev pub IsWide : ℤ → Type 0
IsWide z = unsigned_abs z < 2 ^ 127

-- the scalar product, as far as the shorter list goes
abbrev pub dot : List ℤ → List ℤ → ℤ
dot [] ys = pos 0
dot (x ∷ xs) [] = pos 0
dot (x ∷ xs) (y ∷ ys) = (x *ℤ y) +ℤ dot xs ys

-- the value of a row at a point
abbrev pub value_at : Affine → List ℤ → ℤ
value_at row z = dot row.coefs z +ℤ row.konst

abbrev pub image_of : AffineMap → List ℤ → List ℤ
image_of f z = map (λ row. value_at row z) f.rows

abbrev pub HasWidth : ℕ → Affine → Type 0
HasWidth width row = length row.coefs ≡ width

pub record HasEntries (row : Affine) : Type 0 where
  pub coefficients : All IsEntry row.coefs
  pub constant : IsEntry row.konst

-- a polyhedron holds a point if every row is at least 0 there, a union if some disjunct does
abbrev pub IsAtLeastZero : List ℤ → Affine → Type 0
IsAtLeastZero z row = pos 0 ≤ℤ value_at row z

abbrev pub Holds : Polyhedron → List ℤ → Type 0
Holds conj z = All (IsAtLeastZero z) conj.rows

abbrev pub HoldsSome : Union → List ℤ → Type 0
HoldsSome domain z = Any (λ conj. Holds conj z) domain.disjuncts

abbrev pub IsOver : ℕ → Polyhedron → Type 0
IsOver width conj = conj.width ≡ width

-- what the rows of a conjunction and of a domain have: the width, and entries in range
abbrev pub HasRowsOver : ℕ → Polyhedron → Type 0
HasRowsOver width conj = All (HasWidth width) conj.rows

abbrev pub HasEntryConj : Polyhedron → Type 0
HasEntryConj conj = All HasEntries conj.rows

abbrev pub HasEntryDomain : Union → Type 0
HasEntryDomain domain = All HasEntryConj domain.disjuncts
