-- The verdict on a system of rows: the stages of the elimination end by a row that refutes it, and then its derivation
-- is the answer; or no row does, and then back-substitution gives the answer, a point.
use Rattle.std.specs.Prelude.{◌≡◌, ℕ, ◌≤◌, List, length, All, unsigned_abs, None, Result, Ok, Err, ◌⊎◌}
use Rattle.az_lin.specs.Affine.{Affine, Polyhedron}
use Rattle.az_lin.specs.Derivation.{IsStep, IsDerivation}
use Rattle.az_lin.specs.RationalPoint.{Satisfies}
use Rattle.az_lin.specs.declared.step.Step.{Step}
use Rattle.az_lin.specs.declared.step.RatPoint.{RatPoint}
use Rattle.az_lin.specs.declared.limit.Limit.TheVariants.{Rows as TooManyRows}
use Rattle.farkas_find.specs.Choosing.{free_columns}
use Rattle.farkas_find.specs.Stages.{given_rows, Finishes, LeavesRangeAt, PassesLimit}
use Rattle.farkas_find.specs.Needed.{derivation_of, UsesEachStep}
use Rattle.farkas_find.specs.BackSubstitution.{point_of, IsFoundWide}
use Rattle.farkas_find.specs.Point.{rounded_system}
use Rattle.farkas_find.specs.declared.numbered.Numbered.{Numbered}
use Rattle.farkas_find.specs.declared.trail.Eliminated.{Eliminated}
use Rattle.farkas_find.specs.declared.trail.Ended.{Ended}
use Rattle.farkas_find.specs.declared.trail.Ended.TheVariants.{Refuted, Left}
use Rattle.farkas_find.specs.declared.verdict.Decision.{Decision}
use Rattle.farkas_find.specs.declared.verdict.Decision.TheVariants.{Refuted as RefutedBy, Point}
use Rattle.farkas_find.specs.declared.fault.FindFault.{FindFault}
use Rattle.farkas_find.specs.declared.fault.FindFault.TheVariants.{Overflow, Limit, Memory}

-- the stages with every column end so, after these steps, and leave this behind
abbrev pub StagesEnd : Polyhedron → Ended → List Step → List Eliminated → Type 0
StagesEnd system ended steps trail =
    Finishes (free_columns None system.width) (given_rows system.rows) (record { ended = ended; steps = steps; trail = trail })

-- a row refutes the system, and these are the steps of its derivation
pub record IsRefutedBy (system : Polyhedron) (steps : List Step) : Type 0 where
  pub number : ℕ
  pub log : List Step
  pub trail : List Eliminated
  pub ends : StagesEnd system (Refuted number) log trail
  pub stated : steps ≡ derivation_of number (length system.rows) log
  pub valid : IsDerivation IsStep system.rows steps

-- no row refutes the system, and the columns went in this order
pub record IsUnrefuted (system : Polyhedron) (trail : List Eliminated) : Type 0 where
  pub left : List Numbered
  pub log : List Step
  pub ends : StagesEnd system (Left left) log trail

-- A point is open for a system if no row refutes the system and the point meets the rounded rows.
pub record IsOpen (system : Polyhedron) (point : RatPoint) : Type 0 where
  pub trail : List Eliminated
  pub unrefuted : IsUnrefuted system trail
  pub meets : Satisfies (rounded_system system.width system.rows) point

-- no row refutes the system, and this is the point, which meets the rounded rows
pub record HasPoint (system : Polyhedron) (point : RatPoint) : Type 0 where
  pub trail : List Eliminated
  pub unrefuted : IsUnrefuted system trail
  pub wide : IsFoundWide system.width trail system.rows
  pub stated : point ≡ point_of system.width trail
  pub meets : Satisfies (rounded_system system.width system.rows) point

-- the numbers of back-substitution belong to the last stage, the one after all that eliminated a column
pub record LosesPoint (system : Polyhedron) (stage : ℕ) : Type 0 where
  pub trail : List Eliminated
  pub unrefuted : IsUnrefuted system trail
  pub last : stage ≡ length trail
  pub leaves : ¬ IsFoundWide system.width trail system.rows

abbrev pub Decides : Polyhedron → Result Decision FindFault → Type 0
Decides system (Ok (RefutedBy derivation)) = IsRefutedBy system derivation.steps
Decides system (Ok (Point point)) = HasPoint system point
Decides system (Err (Overflow stage)) = LeavesRangeAt (free_columns None system.width) (given_rows system.rows) stage ⊎ LosesPoint system stage
Decides system (Err (Limit limit)) = (limit ≡ TooManyRows) × PassesLimit (free_columns None system.width) (given_rows system.rows)
Decides system (Err Memory) = Unit {0}

-- few unknowns with small entries never leave the range
abbrev pub IsSmallRow : Affine → Type 0
IsSmallRow row = All (λ coef. unsigned_abs coef ≤ 3) row.coefs × (unsigned_abs row.konst ≤ 3)

pub record IsSmallSystem (system : Polyhedron) : Type 0 where
  pub unknowns : system.width ≤ 5
  pub entries : All IsSmallRow system.rows

abbrev pub IsNoOverflow : Result Decision FindFault → Type 0
IsNoOverflow (Ok decision) = Unit {0}
IsNoOverflow (Err (Overflow stage)) = ⊥
IsNoOverflow (Err (Limit limit)) = Unit {0}
IsNoOverflow (Err Memory) = Unit {0}

-- where one of the two answers is right, the other isn't
abbrev pub ExcludesOther : Polyhedron → Decision → Type 0
ExcludesOther system (RefutedBy derivation) = (point : RatPoint) → ¬ IsOpen system point
ExcludesOther system (Point point) = (steps : List Step) → ¬ IsRefutedBy system steps

-- no step of the derivation is superfluous
abbrev pub IsFrugal : Polyhedron → Decision → Type 0
IsFrugal system (RefutedBy derivation) = UsesEachStep (length system.rows) derivation.steps
IsFrugal system (Point point) = Unit {0}
