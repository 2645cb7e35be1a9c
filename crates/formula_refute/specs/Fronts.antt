-- The answers to systems one after another, up to the first that is not refuted.
use Rattle.std.specs.Prelude.{◌≡◌, ℕ, ◌≤◌, List, [], ◌∷◌, length, take, drop, Err}
use Rattle.std.specs.List.{AllZip}
use Rattle.az_lin.specs.Affine.{Polyhedron}
use Rattle.az_lin.specs.declared.limit.Limit.TheVariants.{Rows as TooManyRows}
use Rattle.az_lin.specs.declared.step.Derivation.{Derivation}
use Rattle.az_lin.specs.declared.step.RatPoint.{RatPoint}
use Rattle.farkas_find.specs.Verdict.{IsRefutedBy, IsOpen, HasPoint, Decides}
use Rattle.farkas_find.specs.declared.fault.FindFault.TheVariants.{Overflow as OverflowAt, Limit}
use Rattle.formula_refute.specs.declared.front.Stop.{Stop}
use Rattle.formula_refute.specs.declared.front.Stop.TheVariants.{End, Point, Overflow, Rows}
use Rattle.formula_refute.specs.declared.front.Front.{Front}

-- a point that no row excludes: no row refutes the system, and the point meets the rounded rows
abbrev pub open_at : Polyhedron → RatPoint → Type 0
open_at system point = IsOpen system point

-- the widths that the elimination takes
abbrev pub IsNarrow : Polyhedron → Type 0
IsNarrow system = system.width ≤ 4096

-- what the elimination answers for a system that it doesn't refute
abbrev pub Stops : Polyhedron → Stop → Type 0
Stops system End = ⊥
Stops system (Point point) = HasPoint system point
Stops system Overflow = (stage : ℕ) × Decides system (Err (OverflowAt stage))
Stops system Rows = Decides system (Err (Limit TooManyRows))

-- what stands at the first of these systems, or at the end where there is none
abbrev pub StopsAtFirst : List Polyhedron → Stop → Type 0
StopsAtFirst [] stop = stop ≡ End
StopsAtFirst (system ∷ rest) stop = Stops system stop

-- the stated derivation of each system before the stop, and what the elimination answers at the stop
pub record IsFront (systems : List Polyhedron) (front : Front) : Type 0 where
  pub refuted : AllZip (λ (system : Polyhedron) (derivation : Derivation). IsRefutedBy system derivation.steps) (take (length front.derivations) systems) front.derivations
  pub stop : StopsAtFirst (drop (length front.derivations) systems) front.stop

abbrev pub IsOnlyFront : List Polyhedron → Front → Type 0
IsOnlyFront systems front = (other : Front) → IsFront systems other → other ≡ front
