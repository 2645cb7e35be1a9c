use Rattle.std.proofs.Common.{rules, ◌≡◌, sym, subst, ◌∙◌}
use Rattle.std.specs.Prelude.{ℤ, FitsSigned, ◌⊎◌}
use Rattle.value_walk.specs.declared.slot.State.TheVariants.{Unknown, Open}
use Rattle.std.proofs.lemmas.Int.{to_z-of_z}
use Rattle.std.specs.Int.{w64, cast_signed, cast_unsigned}
use Rattle.value_walk.specs.Inner.Ready.{MeansIn, IsPending}
use Rattle.value_walk.proofs.SlotLemmas.{known-means, is_pending, pushed}
use Rattle.value_walk.proofs.reader.Reader.slot_value.Goals as goal

pub returns-in-Known-clause-value : goal.returns-in-Known-clause-value
returns-in-Known-clause-value c =
    let scene = c.args.self.now.scene.now in
    let slot = c.slot_of-slot.result in
    let v : ℤ = c.in-Known.value in
    let fits : FitsSigned w64 v = search rules in
    let word : cast_signed w64 (cast_unsigned w64 v) ≡ v = to_z-of_z w64 v fits in
    let at = c.slot_of-slot.ensures in
    subst (λ w. MeansIn scene c.args.x c.args.k.now w) (sym word)
    (known-means scene c.args.states.now slot c.args.x c.args.k.now v c.requires.states at.slot at.variable at.point (sym c.state_of.ensures ∙ c.in-Known.is))

pub returns-in_ok-push-in-Unknown-clause-pending : goal.returns-in_ok-push-in-Unknown-clause-pending
returns-in_ok-push-in-Unknown-clause-pending c =
    let scene = c.args.self.now.scene.now in
    let slot = c.slot_of-slot.result in
    let at = c.slot_of-slot.ensures in
    pushed (IsPending scene c.args.self.now.slot c.args.states.now) c.args.reads.now.items c.push.new.self.items slot c.in_ok-push-in-Unknown.ensures.items c.requires.pending
    (is_pending scene c.args.states.now c.args.self.now.slot slot c.args.x c.args.k.now c.requires.listed at.slot at.variable at.point
    (subst (λ s. (s ≡ Unknown) ⊎ (s ≡ Open)) c.state_of.ensures c.in-Unknown.is))
