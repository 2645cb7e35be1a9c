-- A level of a nest: the range of one index, and bounds on it that hold under the coordinates of the earlier indices.
use Rattle.std.specs.Prelude.{◌≡◌, ◌≢◌, ℕ, suc, List, [], ◌∷◌, length, fold, cond, ℤ, pos, neg_ℤ, ◌+ℤ◌, ◌*ℤ◌, ◌≤ℤ◌, int_lt}
use Rattle.std.specs.Int.{int_div_euclid, int_max, int_min}
use Rattle.std.specs.List.{All}
use Rattle.az_lin.specs.Affine.{IsEntry, IsCoordinate, value_at}
use Rattle.loop_scan.specs.declared.range.Range.{Range}
use Rattle.loop_scan.specs.declared.bound.Bound.{Bound}
use Rattle.loop_scan.specs.declared.level.Level.{Level}

abbrev pub IsIn : Range → ℤ → Type 0
IsIn range x = (range.low ≤ℤ x) × (x ≤ℤ range.high)

-- a bound admits the numbers x at which coef * x + rest is at least 0
abbrev pub Admits : List ℤ → Bound → ℤ → Type 0
Admits z bound x = pos 0 ≤ℤ ((bound.coef *ℤ x) +ℤ value_at bound.rest z)

-- a positive coefficient bounds them from below, a negative one from above
abbrev pub narrowed : ℤ → ℤ → Range → Range
narrowed coef rest range =
    cond (int_lt (pos 0) coef) (record { low = int_max (neg_ℤ (int_div_euclid rest coef)) range.low; high = range.high })
    (record { low = range.low; high = int_min range.high (int_div_euclid rest (neg_ℤ coef)) })

abbrev pub narrowed_at : List ℤ → Range → Bound → Range
narrowed_at z range bound = narrowed bound.coef (value_at bound.rest z) range

-- the numbers that the index runs through after the coordinates z
abbrev pub range_at : Level → List ℤ → Range
range_at level z = fold (narrowed_at z) level.range level.bounds.items

-- a bound on the index after so many others, and a level of such bounds
pub record IsBound (k : ℕ) (bound : Bound) : Type 0 where
  pub entry : IsEntry bound.coef
  pub nonzero : bound.coef ≢ pos 0
  pub width : length bound.rest.coefs ≡ k

abbrev pub HasCoordinates : Range → Type 0
HasCoordinates range = (x : ℤ) → IsIn range x → IsCoordinate x

pub record IsLevel (k : ℕ) (level : Level) : Type 0 where
  pub bounds : All (IsBound k) level.bounds.items
  pub coordinates : HasCoordinates level.range

abbrev pub AreLevels : ℕ → List Level → Type 0
AreLevels k [] = Unit {0}
AreLevels k (level ∷ levels) = IsLevel k level × AreLevels (suc k) levels
