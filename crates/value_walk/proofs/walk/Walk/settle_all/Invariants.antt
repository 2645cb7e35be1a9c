use Rattle.std.proofs.Common.{◌≡◌, ℕ, ◌<◌, []}
use Rattle.value_walk.specs.Inner.Slots.{IsSlot, IsKnown, state_of}
use Rattle.value_walk.specs.Inner.Walks.{IsGood}
use Rattle.value_walk.specs.declared.slot.Slot.{Slot}
use Rattle.value_walk.proofs.walk.Walk.settle_all.Given as goal

abbrev pub invariant-places : goal.invariant-places
invariant-places l =
    IsGood l.scene l.self.states.items l.self.work × (l.self.work ≡ []) ×
    ((slot : Slot) → IsSlot l.scene.points.now slot → IsKnown (state_of l.fn.self.states.items slot) → IsKnown (state_of l.self.states.items slot)) ×
    ((place : ℕ) → place < l.place → IsSlot l.scene.points.now (record { variable = l.fn.x; place = place }) → IsKnown (state_of l.self.states.items (record { variable = l.fn.x; place = place })))
