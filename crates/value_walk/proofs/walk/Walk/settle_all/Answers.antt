use Rattle.std.proofs.Common.{◌≡◌, ℕ, inl, inr, subst, arith}
use Rattle.std.proofs.lemmas.Bool.{cases_lt}
use Rattle.value_walk.specs.Inner.Slots.{IsKnown, state_of}
use Rattle.value_walk.specs.declared.slot.Slot.{Slot}
use Rattle.value_walk.proofs.walk.Walk.settle_all.Goals as goal

pub places-preserved : goal.places-preserved
places-preserved c =
    let at = c.in_ok-run.ensures in
    let before = c.places.invariant in
    let place : ℕ = c.places.place in
    let slot : ℕ → Slot = λ (q : ℕ). record { variable = c.args.x; place = q } in (
      at.good,
      at.empty,
      λ s h known. at.kept s h (before.2 s h known),
      λ q less h. elim (cases_lt q place) [
        | inl l ↦ at.kept (slot q) h (before.3 q l h)
        | inr g ↦ (let same : place ≡ q = omega arith in subst (λ r. IsKnown (state_of c.run.new.self.states.items (slot r))) same at.known)
      ],
    )
