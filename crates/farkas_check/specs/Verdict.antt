-- What an answer of the judge means: each derivation is accepted or has a first step that fails.
use Rattle.std.specs.Prelude.{ℕ, ◌-◌, ◌<◌, List, length, Result, Ok, Err, pos, ◌≤ℤ◌, ◌<ℤ◌, unsigned_abs}
use Rattle.az_lin.specs.Affine.{Affine}
use Rattle.az_lin.specs.CommonDivisor.{DividesEach}
use Rattle.az_lin.specs.Derivation.{IsStep, IsExactStep, IsDerivation, IsFirstBad, IsContradiction, row_at}
use Rattle.az_lin.specs.RationalPoint.{IsWideAt, value_over}
use Rattle.az_lin.specs.declared.step.Step.{Step}
use Rattle.az_lin.specs.declared.step.RatPoint.{RatPoint}
use Rattle.farkas_check.specs.declared.fault.CheckFault.{CheckFault}
use Rattle.farkas_check.specs.declared.fault.CheckFault.TheVariants.{BadStep, Memory}
use Rattle.farkas_check.specs.declared.next_row.Rule.{Rule}
use Rattle.farkas_check.specs.declared.next_row.Rule.TheVariants.{Rounded, Exact}
use Prim.Native.Nat.{◌∣◌}

abbrev pub IsGood : Rule → List Affine → Step → Type 0
IsGood Rounded = IsStep
IsGood Exact = IsExactStep

pub record HasGoodSigns (step : Step) : Type 0 where
  pub left_weight : pos 0 ≤ℤ step.a
  pub right_weight : pos 0 ≤ℤ step.b
  pub divisor : pos 0 <ℤ step.g

abbrev pub DividesBy : Rule → ℕ → Affine → Type 0
DividesBy Rounded d row = DividesEach d row.coefs
DividesBy Exact d row = DividesEach d row.coefs × (d ∣ unsigned_abs row.konst)

pub record IsContradictionLast (rows : List Affine) : Type 0 where
  pub some : 0 < length rows
  pub last : IsContradiction (row_at rows (length rows - 1))

-- accepted, or refused at the first step that isn't good; want of memory says nothing
abbrev pub IsVerdict : (List Affine → Step → Type 0) → List Affine → List Step → Result (Unit {0}) CheckFault → Type 0
IsVerdict Good rows steps (Ok _) = IsDerivation Good rows steps
IsVerdict Good rows steps (Err (BadStep number)) = IsFirstBad Good rows steps number
IsVerdict Good rows steps (Err Memory) = Unit {0}

-- what a point owes to one row of a system
pub record IsMet (point : RatPoint) (row : Affine) : Type 0 where
  pub in_range : IsWideAt point row
  pub satisfied : pos 0 ≤ℤ value_over row point
