-- What the calls answer that make formulas: all of them in order, where what is made on the way is in range, and
-- else `Entry`. Want of memory may stand for either.
use Rattle.std.specs.Prelude.{◌≡◌, ℕ, ◌≤◌, List, ◌++◌, map, All, Result, Ok, Err}
use Rattle.az_lin.specs.Substitution.{HasEntryRows}
use Rattle.az_ast.specs.System.{System}
use Rattle.expr_places.specs.Reads.{ReadPlace, reads_of}
use Rattle.formula_refute.specs.Claims.{claim, IsInRange, IsOver}
use Rattle.formula_refute.specs.declared.fault.RefuteFault.{RefuteFault}
use Rattle.formula_refute.specs.declared.fault.RefuteFault.TheVariants.{Overflow, Entry, Limit, Memory}
use Rattle.order_sets.specs.Orders.{StatedClaim, order_claim}
use Rattle.order_sets.specs.Visits.{read_visit, own_visit, time_map}
use Rattle.order_sets.specs.declared.stated.Stated.{Stated}
use Rattle.target_map.specs.Settings.{TargetMapping}

abbrev pub stated_claim : Stated → StatedClaim
stated_claim stated = record { which = stated.which; width = stated.width; claim = claim stated.formula }

abbrev pub States : Type 0 → List StatedClaim → Result (List Stated) RefuteFault → Type 0
States fits wanted (Ok list) = (map stated_claim list ≡ wanted) × fits
States fits wanted (Err Entry) = fits → ⊥
States fits wanted (Err (Overflow number)) = ⊥
States fits wanted (Err (Limit limit)) = ⊥
States fits wanted (Err Memory) = Unit {0}

-- the same behind others
abbrev pub Appends : Type 0 → List StatedClaim → List Stated → List Stated → Result (Unit {0}) RefuteFault → Type 0
Appends fits wanted old new (Ok _) = (map stated_claim new ≡ map stated_claim old ++ wanted) × fits
Appends fits wanted old new (Err Entry) = fits → ⊥
Appends fits wanted old new (Err (Overflow number)) = ⊥
Appends fits wanted old new (Err (Limit limit)) = ⊥
Appends fits wanted old new (Err Memory) = Unit {0}

-- a formula that can be refuted: its rows have its columns, which are few enough
abbrev pub IsRefutable : StatedClaim → Type 0
IsRefutable stated = (stated.width ≤ 4096) × IsOver stated.width stated.claim

-- the rows composed for a read are in range, and those of its formula
pub record FitsOrder (p : System) (m : TargetMapping) (x : ℕ) (read : ReadPlace) : Type 0 where
  pub point : HasEntryRows (time_map m (read_visit p read))
  pub reader : HasEntryRows (time_map m (own_visit p x read.scope.width))
  pub rows : IsInRange (order_claim p m x read)

abbrev pub FitsOrders : System → TargetMapping → Type 0
FitsOrders p m = All (λ equation. All (FitsOrder p m equation.variable) (reads_of p equation)) p.equations
