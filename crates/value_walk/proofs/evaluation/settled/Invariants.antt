use Rattle.std.proofs.Common.{◌≡◌, ◌<◌, ◌≤◌, [], length}
use Rattle.value_walk.specs.Inner.Slots.{IsSlot, IsKnown, state_of}
use Rattle.value_walk.specs.Inner.Walks.{IsGood}
use Rattle.value_walk.specs.declared.slot.Slot.{Slot}
use Rattle.value_walk.proofs.evaluation.settled.Given as goal

abbrev pub invariant-variables : goal.invariant-variables
invariant-variables l =
    IsGood l.scene l.walk.states.items l.walk.work × (l.walk.work ≡ []) ×
    ((slot : Slot) → slot.variable < l.x → IsSlot l.scene.points.now slot → IsKnown (state_of l.walk.states.items slot))

abbrev pub invariant-loop-left : goal.invariant-loop-left
invariant-loop-left l = IsGood l.scene l.walk.states.items l.walk.work × (l.walk.work ≡ []) × (l.left ≤ length l.scene.points.now)

abbrev pub decreases-loop-left : goal.decreases-loop-left
decreases-loop-left l = l.left
