-- The stack of a walk, its top first: the points whose values are asked for, and those that are begun, whose values
-- wait for what stands above them.
use Rattle.std.specs.Prelude.{◌≡◌, ℕ, List, [], ◌∷◌, Option, Some, None, ◌⊎◌, Bool, true, false, sum_by, count_by, slice_set}
use Rattle.value_walk.specs.Chains.{Reads, ReadsAlong}
use Rattle.value_walk.specs.Inner.Ready.{AreStates}
use Rattle.value_walk.specs.Inner.Slots.{point_of, IsSlot, States, states_of, state_of, IsKnown}
use Rattle.value_walk.specs.declared.refusal.PointName.{PointName}
use Rattle.value_walk.specs.declared.scene.Scene.{Scene}
use Rattle.value_walk.specs.declared.slot.Slot.{Slot}
use Rattle.value_walk.specs.declared.slot.State.{State}
use Rattle.value_walk.specs.declared.slot.State.TheVariants.{Unknown, Open, Known}
use Rattle.value_walk.specs.declared.step.Step.{Step}
use Rattle.value_walk.specs.declared.step.Step.TheVariants.{Asked, Begun}

abbrev pub slot_in : Step → Slot
slot_in (Asked slot) = slot
slot_in (Begun slot) = slot

-- the latest point that is begun reads each point above it, up to the next that is begun
abbrev pub latest : List Step → Option Slot
latest [] = None
latest (Asked slot ∷ rest) = latest rest
latest (Begun slot ∷ rest) = Some slot

abbrev pub name_of : Scene → Slot → PointName
name_of scene slot = record { variable = slot.variable; point = point_of scene.points.now slot }

abbrev pub IsReadFrom : Scene → Option Slot → PointName → Type 0
IsReadFrom scene None name = Unit {0}
IsReadFrom scene (Some reader) name = Reads scene.program.now scene.params.now (name_of scene reader) name

abbrev pub IsLinked : Scene → List Step → Type 0
IsLinked scene [] = Unit {0}
IsLinked scene (step ∷ rest) = IsSlot scene.points.now (slot_in step) × IsReadFrom scene (latest rest) (name_of scene (slot_in step)) × IsLinked scene rest

abbrev pub IsIn : Step → List Step → Type 0
IsIn step [] = ⊥
IsIn step (first ∷ rest) = (first ≡ step) ⊎ IsIn step rest

pub record IsGood (scene : Scene) (states : States) (work : List Step) : Type 0 where
  pub stated : AreStates scene states
  pub linked : IsLinked scene work
  pub open_ones : (slot : Slot) → IsSlot scene.points.now slot → state_of states slot ≡ Open → IsIn (Begun slot) work

-- the value is known or will be
abbrev pub IsDue : States → List Step → Slot → Type 0
IsDue states work slot = IsKnown (state_of states slot) ⊎ (IsIn (Asked slot) work ⊎ IsIn (Begun slot) work)

abbrev pub AreKept : Scene → States → List Step → States → List Step → Type 0
AreKept scene states work after rest = (slot : Slot) → IsSlot scene.points.now slot → IsDue states work slot → IsDue after rest slot

-- how many values aren't looked for yet
abbrev pub is_unknown : State → Bool
is_unknown Unknown = true
is_unknown Open = false
is_unknown (Known v) = false

abbrev pub unknown : States → ℕ
unknown states = sum_by (count_by is_unknown) states

abbrev pub with_state : States → Slot → State → States
with_state states slot state = slice_set states slot.variable (slice_set (states_of states slot.variable) slot.place state)

-- from the latest point that is begun the names lead to the last one
abbrev pub IsTrail : Scene → Option Slot → List PointName → PointName → Type 0
IsTrail scene reader [] last = IsReadFrom scene reader last
IsTrail scene reader (first ∷ rest) last = IsReadFrom scene reader first × ReadsAlong scene.program.now scene.params.now first rest last
