-- Which instances are carried out before which, whatever the number of workers and their speed.
--
-- Steps of the outer dimensions are taken one after the other. Within such a step tiles of the band are taken
-- along its diagonals, those of one diagonal at once: so of two instances of which no band coordinate goes back
-- the first is in an earlier diagonal if it is less in a coordinate whose tiles have size 1, and in the same
-- tile or an earlier diagonal else. In a tile one processor carries out its instances in order of band, inner
-- coordinates and statement.
use Rattle.std.specs.Prelude.{◌≡◌, ℕ, ℤ, ◌≤ℤ◌, ◌<ℤ◌, ◌⊎◌, List, [], ◌∷◌}
use Rattle.az_ast.specs.Points.{Precedes}
use Rattle.target_map.specs.Stamps.{Stamp}

-- no coordinate of the first exceeds that of the second
abbrev pub NoneExceeds : List ℤ → List ℤ → Type 0
NoneExceeds [] ys = Unit {0}
NoneExceeds (x ∷ xs) [] = Unit {0}
NoneExceeds (x ∷ xs) (y ∷ ys) = (x ≤ℤ y) × NoneExceeds xs ys

-- some coordinate whose tiles have size 1 is less
abbrev pub SomeUnitLess : List ℕ → List ℤ → List ℤ → Type 0
SomeUnitLess [] xs ys = ⊥
SomeUnitLess (size ∷ sizes) [] ys = ⊥
SomeUnitLess (size ∷ sizes) (x ∷ xs) [] = ⊥
SomeUnitLess (size ∷ sizes) (x ∷ xs) (y ∷ ys) = ((size ≡ 1) × (x <ℤ y)) ⊎ SomeUnitLess sizes xs ys

-- in these three cases and in no other
pub data Before (sizes : List ℕ) (u v : Stamp ℤ) : Type 0 where
  in_outer_step : Precedes u.outer v.outer → Before sizes u v
  in_unit_tile : u.outer ≡ v.outer → NoneExceeds u.band v.band → SomeUnitLess sizes u.band v.band → Before sizes u v
  in_same_tile : u.outer ≡ v.outer → NoneExceeds u.band v.band → u.processor ≡ v.processor → Precedes u.tile v.tile → Before sizes u v
