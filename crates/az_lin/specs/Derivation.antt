-- A derivation: steps that each make one more row of a system, until a row says that a negative number is at least 0.
-- A step adds two earlier rows, scaled by numbers that aren't negative, and divides the sum: the coefficients
-- exactly, the constant rounded down. At whole numbers the new row is at least 0 wherever the earlier rows are,
-- since there the divided coefficients give a whole number, and rounding down loses nothing.
use Rattle.std.specs.Prelude.{◌≡◌, ℕ, ◌+◌, ◌-◌, ◌<◌, List, [], ◌∷◌, ◌++◌, length, take, All, slice_index_or, ◌⊎◌}
use Rattle.std.specs.Prelude.{pos, ◌≤ℤ◌, ◌<ℤ◌, unsigned_abs}
use Rattle.az_lin.specs.Affine.{Affine}
use Rattle.az_lin.specs.CommonDivisor.{DividesEach}
use Rattle.az_lin.specs.Combination.{HasWideEntries, IsWideCombination, combination, quotient}
use Rattle.az_lin.specs.declared.step.Step.{Step}
use Prim.Native.Nat.{◌∣◌}

abbrev pub row_at : List Affine → ℕ → Affine
row_at rows number = slice_index_or rows number (record { coefs = []; konst = pos 0 })

-- the sum of a step, and the row that the step makes of it
abbrev pub sum_of : List Affine → Step → Affine
sum_of rows step = combination step.a (row_at rows step.i) step.b (row_at rows step.j)

abbrev pub row_of : List Affine → Step → Affine
row_of rows step = quotient (sum_of rows step) step.g

pub record IsStep (rows : List Affine) (step : Step) : Type 0 where
  pub left_below : step.i < length rows
  pub right_below : step.j < length rows
  pub left_weight : pos 0 ≤ℤ step.a
  pub right_weight : pos 0 ≤ℤ step.b
  pub divisor : pos 0 <ℤ step.g
  pub in_range : IsWideCombination step.a (row_at rows step.i) step.b (row_at rows step.j)
  pub divides : DividesEach (unsigned_abs step.g) (sum_of rows step).coefs
  pub result_in_range : HasWideEntries (row_of rows step)

-- version 1 has no rounding: the divisor divides the constant too
pub record IsExactStep (rows : List Affine) (step : Step) : Type 0 where
  pub valid : IsStep rows step
  pub exact : unsigned_abs step.g ∣ unsigned_abs (sum_of rows step).konst

-- the rows after some steps, the new rows in the order of their steps
abbrev pub rows_after : List Affine → List Step → List Affine
rows_after rows [] = rows
rows_after rows (step ∷ steps) = rows_after (rows ++ row_of rows step ∷ []) steps

abbrev pub AllSteps : (List Affine → Step → Type 0) → List Affine → List Step → Type 0
AllSteps IsGood rows [] = Unit {0}
AllSteps IsGood rows (step ∷ steps) = IsGood rows step × AllSteps IsGood (rows ++ row_of rows step ∷ []) steps

-- a row that is negative at every point
pub record IsContradiction (row : Affine) : Type 0 where
  pub constant_alone : All (λ coef. coef ≡ pos 0) row.coefs
  pub negative : row.konst <ℤ pos 0

-- there is a step, and the last row is a contradiction
pub record EndsInContradiction (rows : List Affine) (steps : List Step) : Type 0 where
  pub some : 0 < length steps
  pub last : IsContradiction (row_at (rows_after rows steps) (length rows + length steps - 1))

-- a derivation from these rows, by the final rule or by that of version 1
pub record IsDerivation (IsGood : List Affine → Step → Type 0) (rows : List Affine) (steps : List Step) : Type 0 where
  pub steps_good : AllSteps IsGood rows steps
  pub ends : EndsInContradiction rows steps

-- where it is none: the number of the first step that isn't good, or the number of steps where all are good
pub record IsFirstBad (IsGood : List Affine → Step → Type 0) (rows : List Affine) (steps : List Step) (number : ℕ) : Type 0 where
  pub before : AllSteps IsGood rows (take number steps)
  pub bad : (number < length steps × ((d : Step) → ¬ IsGood (rows_after rows (take number steps)) (slice_index_or steps number d)))
      ⊎ ((number ≡ length steps) × (¬ EndsInContradiction rows steps))
