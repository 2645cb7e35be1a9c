-- The places of points, by variable, and the state of each.
use Rattle.std.specs.Prelude.{◌≡◌, ◌<◌, ℕ, ℤ, ◌-◌, List, [], length, slice_index_or, slice_get, All, MatchOption, replicate}
use Rattle.az_lin.specs.Affine.{IsCoordinate}
use Rattle.az_ast.specs.Meaning.{Means, RoleGives}
use Rattle.az_ast.specs.Points.{AreMembers}
use Rattle.az_ast.specs.System.{System}
use Rattle.az_ast.specs.Tables.{Tables}
use Rattle.az_ast.specs.declared.program.Variable.{Variable}
use Rattle.loop_scan.specs.Answers.{IsUnrefused}
use Rattle.value_walk.specs.Boxes.{BoxRefuses}
use Rattle.value_walk.specs.Points.{Points, points_of, AreCoordinates}
use Rattle.loop_scan.specs.declared.fault.ScanFault.{ScanFault}
use Rattle.value_walk.specs.declared.slot.Slot.{Slot}
use Rattle.value_walk.specs.declared.slot.State.{State}
use Rattle.value_walk.specs.declared.slot.State.TheVariants.{Unknown, Open, Known}

abbrev pub point_of : Points → Slot → List ℤ
point_of points slot = slice_index_or (points_of points slot.variable) slot.place []

abbrev pub IsSlot : Points → Slot → Type 0
IsSlot points slot = slot.place < length (points_of points slot.variable)

abbrev pub States : Type 0
States = List (List State)

abbrev pub states_of : States → ℕ → List State
states_of states x = slice_index_or states x []

abbrev pub state_of : States → Slot → State
state_of states slot = slice_index_or (states_of states slot.variable) slot.place Unknown

abbrev pub IsKnown : State → Type 0
IsKnown Unknown = ⊥
IsKnown Open = ⊥
IsKnown (Known v) = Unit {0}

-- a state for each point, and each value that is known is a meaning
abbrev pub AreAligned : Points → States → Type 0
AreAligned points states = (x : ℕ) → length (states_of states x) ≡ length (points_of points x)

abbrev pub IsMeant : (ℤ → Type 0) → State → Type 0
IsMeant means Unknown = Unit {0}
IsMeant means Open = Unit {0}
IsMeant means (Known v) = means v

abbrev pub AreMeant : System → Tables → List ℤ → Points → States → Type 0
AreMeant p tables params points states =
    (slot : Slot) → IsSlot points slot → IsMeant (λ v. Means p tables params slot.variable (point_of points slot) v) (state_of states slot)

abbrev pub ArePointsOf : Variable → List ℤ → List (List ℤ) → Type 0
ArePointsOf variable params list =
    RoleGives variable.role (list ≡ []) (AreMembers variable.domain params (variable.domain.width - length params) list × AreCoordinates params list)

abbrev pub IsOwnRefused : Variable → List ℤ → ScanFault → Type 0
IsOwnRefused variable params fault = RoleGives variable.role ⊥ (BoxRefuses variable.domain params fault)

abbrev pub IsOwnRefusedIn : System → List ℤ → ScanFault → Type 0
IsOwnRefusedIn p params fault = (x : ℕ) × MatchOption (slice_get p.variables x) ⊥ (λ variable. IsOwnRefused variable params fault)

-- its own box is not refused
abbrev pub IsOwnUnrefused : Variable → List ℤ → Type 0
IsOwnUnrefused variable params = RoleGives variable.role (Unit {0}) (IsUnrefused variable.domain params)

abbrev pub IsUnrefusedAt : System → List ℤ → ℕ → Type 0
IsUnrefusedAt p params x = MatchOption (slice_get p.variables x) (Unit {0}) (λ variable. IsOwnUnrefused variable params)

-- the value of a point is known, and it is a meaning
abbrev pub IsSettledAt : (List ℤ → ℤ → Type 0) → List (List ℤ) → List State → ℕ → Type 0
IsSettledAt means points states place =
    IsKnown (slice_index_or states place Unknown) × IsMeant (means (slice_index_or points place [])) (slice_index_or states place Unknown)

abbrev pub AreSettled : System → Tables → List ℤ → Points → States → Type 0
AreSettled p tables params points states =
    (x place : ℕ) → place < length (points_of points x) → IsSettledAt (Means p tables params x) (points_of points x) (states_of states x) place

abbrev pub unknown_for : List (List ℤ) → List State
unknown_for list = replicate (length list) Unknown
