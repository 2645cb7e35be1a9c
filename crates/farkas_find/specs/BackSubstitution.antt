-- Back-substitution: where no stage is refuted, what the stages eliminated gives a point of the given rows. Its columns
-- get their numbers in the reverse order of elimination, over one common positive denominator. A column that never went
-- has the number 0. All of it is over unbounded whole numbers.
use Rattle.std.specs.Prelude.{◌≡◌, ℕ, ◌<◌, Bool, true, false, cond, List, [], ◌∷◌, map, set, replicate, All, Option, Some, None}
use Rattle.std.specs.Prelude.{ℤ, pos, ◌*ℤ◌, ◌<ℤ◌, neg_ℤ, int_lt, unsigned_abs}
use Rattle.std.specs.Int.{int_div_euclid}
use Rattle.std.specs.List.{fold, filter}
use Rattle.std.specs.Option.{option_or}
use Rattle.az_lin.specs.Affine.{Affine, IsWide}
use Rattle.az_lin.specs.CommonDivisor.{gcd_of_all}
use Rattle.az_lin.specs.RationalPoint.{value_over, IsWideAt}
use Rattle.az_lin.specs.declared.step.RatPoint.{RatPoint}
use Rattle.farkas_find.specs.Tidying.{coef_at, rounded}
use Rattle.farkas_find.specs.Combining.{is_positive, has_sign, HaveWidth}
use Rattle.farkas_find.specs.declared.numbered.Numbered.{Numbered}
use Rattle.farkas_find.specs.declared.trail.Eliminated.{Eliminated}
use Rattle.farkas_find.specs.declared.bound.Bound.{Bound}
use Rattle.farkas_find.specs.declared.found.Found.{Found}

abbrev pub origin : ℕ → RatPoint
origin width = record { nums = replicate width (pos 0); den = pos 1 }

-- the point with a number put into a column; and with 0 there, so that the column's own coefficient counts for nothing
abbrev pub put : ℕ → ℤ → RatPoint → RatPoint
put column number point = record { nums = set point.nums column number; den = point.den }

abbrev pub cleared : ℕ → RatPoint → RatPoint
cleared column point = put column (pos 0) point

-- A row with the coefficient c in the column and the value e of the rest bounds the column's number, over the
-- denominator, by -e/c: from below if c is positive, and else from above.
abbrev pub bound_of : ℕ → RatPoint → Numbered → Bound
bound_of column point it = record { rest = value_over it.row point; coef = coef_at column it }

unfoldable pub bounds_at : Eliminated → RatPoint → List Bound
bounds_at gone point = map (bound_of gone.column point) gone.rows

abbrev pub magnitude : ℤ → ℤ
magnitude z = pos (unsigned_abs z)

-- Of two bounds from one side the tighter, the greater from below and the less from above, is the one whose rest is less
-- when each is multiplied by the magnitude of the other's coefficient. Of equal bounds it is the earlier.
abbrev pub is_tighter : Bound → Bound → Bool
is_tighter next best = int_lt (next.rest *ℤ magnitude best.coef) (best.rest *ℤ magnitude next.coef)

unfoldable pub tighter : Option Bound → Bound → Bound
tighter None next = next
tighter (Some best) next = cond (is_tighter next best) next best

abbrev pub tighter_of : Option Bound → Bound → Option Bound
tighter_of best next = Some (tighter best next)

abbrev pub from_side : Bool → List Bound → List Bound
from_side below bounds = filter (λ bound. has_sign below bound.coef) bounds

unfoldable pub tightest : Bool → List Bound → Option Bound
tightest below bounds = fold tighter_of None (from_side below bounds)

-- the bound that the column takes: the greatest from below, or else the least from above, if there is one
unfoldable pub taken : List Bound → Option Bound
taken bounds = option_or (tightest true bounds) (tightest false bounds)

-- the column's number at that bound, by which the denominator and the earlier numbers are multiplied; and 0 without one
abbrev pub factor_at : Option Bound → ℤ
factor_at None = pos 1
factor_at (Some bound) = magnitude bound.coef

abbrev pub number_at : Option Bound → ℤ
number_at None = pos 0
number_at (Some bound) = cond (is_positive bound.coef) (neg_ℤ bound.rest) bound.rest

unfoldable pub scaled : ℤ → RatPoint → RatPoint
scaled factor point = record { nums = map (λ number. factor *ℤ number) point.nums; den = factor *ℤ point.den }

-- numbers and denominator are divided by their greatest common divisor
abbrev pub common_divisor_of : RatPoint → ℕ
common_divisor_of point = gcd_of_all (point.den ∷ point.nums)

unfoldable pub reduced : RatPoint → RatPoint
reduced point = record {
  nums = map (λ number. int_div_euclid number (pos (common_divisor_of point))) point.nums;
  den = int_div_euclid point.den (pos (common_divisor_of point));
}

-- the point with the number that a column takes by a bound, and with the one that its rows give it
unfoldable pub placed_by : ℕ → Option Bound → RatPoint → RatPoint
placed_by column bound point = reduced (put column (number_at bound) (scaled (factor_at bound) point))

unfoldable pub placed : Eliminated → RatPoint → RatPoint
placed gone point = placed_by gone.column (taken (bounds_at gone (cleared gone.column point))) (cleared gone.column point)

-- from a point that serves for the later stages, what went before being put into it, the last first
abbrev pub point_from : List Eliminated → RatPoint → RatPoint
point_from [] point = point
point_from (gone ∷ trail) point = placed gone (point_from trail point)

-- The point. It is reduced as it stands, since it was after each column.
abbrev pub point_of : ℕ → List Eliminated → RatPoint
point_of width trail = point_from trail (origin width)

abbrev pub IsDenominator : ℤ → Type 0
IsDenominator den = (pos 0 <ℤ den) × IsWide den

pub record HasWideBound (bound : Bound) : Type 0 where
  pub rest : IsWide bound.rest
  pub coef : IsWide bound.coef

pub record CanBeTaken (bound : Bound) : Type 0 where
  pub wide : HasWideBound bound
  pub nonzero : pos 0 <ℤ magnitude bound.coef

-- a column of so many, and rows of that width
pub record IsInside (width : ℕ) (gone : Eliminated) : Type 0 where
  pub column : gone.column < width
  pub rows : HaveWidth width gone.rows

-- the numbers found so far, as a point
abbrev pub point_in : Found → RatPoint
point_in found = record { nums = found.nums.items; den = found.den }

-- All numbers on the way are in range: the rest of each row with the column, with all products and sums in it; the
-- products by which bounds are compared, the best so far with the next, those from above only if none is from below; and
-- what the denominator and the numbers are multiplied to. Then each given row, rounded, is evaluated at the point.
abbrev pub AreComparable : Option Bound → Bound → Type 0
AreComparable None next = Unit {0}
AreComparable (Some best) next = IsWide (next.rest *ℤ magnitude best.coef) × IsWide (best.rest *ℤ magnitude next.coef)

abbrev pub CompareWide : Option Bound → List Bound → Type 0
CompareWide best [] = Unit {0}
CompareWide best (next ∷ bounds) = AreComparable best next × CompareWide (tighter_of best next) bounds

unfoldable pub TightestWide : Bool → List Bound → Type 0
TightestWide below bounds = CompareWide None (from_side below bounds)

pub record TakenWide (bounds : List Bound) : Type 0 where
  pub below : TightestWide true bounds
  pub above : tightest true bounds ≡ None → TightestWide false bounds

pub record ScaledWide (factor : ℤ) (point : RatPoint) : Type 0 where
  pub numbers : All (λ number. IsWide (factor *ℤ number)) point.nums
  pub denominator : IsWide (factor *ℤ point.den)

pub record PlacedWide (gone : Eliminated) (point : RatPoint) : Type 0 where
  pub rests : All (λ it. IsWideAt point it.row) gone.rows
  pub takes : TakenWide (bounds_at gone point)
  pub scales : ScaledWide (factor_at (taken (bounds_at gone point))) point

abbrev pub PointWide : List Eliminated → RatPoint → Type 0
PointWide [] point = Unit {0}
PointWide (gone ∷ trail) point = PointWide trail point × PlacedWide gone (cleared gone.column (point_from trail point))

pub record IsFoundWide (width : ℕ) (trail : List Eliminated) (given : List Affine) : Type 0 where
  pub columns : PointWide trail (origin width)
  pub rows : All (λ row. IsWideAt (point_of width trail) (rounded row)) given
