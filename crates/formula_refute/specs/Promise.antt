-- The promise of the crate: what a refutation of a formula answers. Yes has a derivation for each case, so the formula
-- is false at all whole points; No has the first case that isn't refuted, with a point that is open for it.
use Rattle.std.specs.Prelude.{◌≡◌, ℕ, ◌<◌, ◌≤◌, List, ℤ, length, slice_get, IsSomeAnd, Result, Ok, Err, ◌⊎◌}
use Rattle.az_lin.specs.Affine.{Polyhedron}
use Rattle.az_lin.specs.declared.limit.Limit.TheVariants.{Systems, Rows as TooManyRows}
use Rattle.az_lin.specs.declared.step.Derivation.{Derivation}
use Rattle.formula_refute.specs.Cases.{most_systems}
use Rattle.formula_refute.specs.Claims.{Claim, IsTrueAt}
use Rattle.formula_refute.specs.Fronts.{IsFront, open_at}
use Rattle.formula_refute.specs.declared.front.Stop.{Stop}
use Rattle.formula_refute.specs.declared.front.Stop.TheVariants.{End, Point, Overflow, Rows}
use Rattle.formula_refute.specs.declared.refutation.Answer.{Answer}
use Rattle.formula_refute.specs.declared.refutation.Answer.TheVariants.{Yes, No}
use Rattle.formula_refute.specs.declared.fault.RefuteFault.{RefuteFault}
use Rattle.formula_refute.specs.declared.fault.RefuteFault.TheVariants as fault

-- the cases before this one have their derivations, and this one stops so
pub record StopsAtCase (systems : List Polyhedron) (number : ℕ) (stop : Stop) : Type 0 where
  pub derivations : List Derivation
  pub front : IsFront systems (record { derivations = derivations; stop = stop })
  pub here : number ≡ length derivations

abbrev pub Refutes : List Polyhedron → Result Answer RefuteFault → Type 0
Refutes systems (Ok (Yes derivations)) = (length systems ≤ most_systems) × IsFront systems (record { derivations = derivations; stop = End })
Refutes systems (Ok (No number point)) = (length systems ≤ most_systems) × StopsAtCase systems number (Point point)
Refutes systems (Err (fault.Overflow number)) = (length systems ≤ most_systems) × StopsAtCase systems number Overflow
Refutes systems (Err (fault.Limit limit)) =
    ((limit ≡ Systems) × (most_systems < length systems))
    ⊎ ((limit ≡ TooManyRows) × (length systems ≤ most_systems) × ((number : ℕ) × StopsAtCase systems number Rows))
Refutes systems (Err fault.Entry) = ⊥
Refutes systems (Err fault.Memory) = Unit {0}

abbrev pub IsFalseIfYes : Claim → Answer → Type 0
IsFalseIfYes c (Yes derivations) = (z : List ℤ) → ¬ IsTrueAt z c
IsFalseIfYes c (No number point) = Unit {0}

abbrev pub IsOpenIfNo : List Polyhedron → Answer → Type 0
IsOpenIfNo systems (Yes derivations) = Unit {0}
IsOpenIfNo systems (No number point) = IsSomeAnd (slice_get systems number) (λ system. open_at system point)
