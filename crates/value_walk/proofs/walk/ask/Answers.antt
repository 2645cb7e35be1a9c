use Rattle.std.proofs.Common.{◌≡◌, ◌-◌, ◌∷◌, sym, ap, subst, ◌∙◌, arith, inr}
use Rattle.std.specs.Prelude.{slice_index_or}
use Rattle.value_walk.specs.Inner.Ready.{IsPending}
use Rattle.value_walk.specs.Inner.Walks.{IsLinked, IsIn, latest}
use Rattle.value_walk.specs.declared.slot.Slot.{Slot}
use Rattle.value_walk.specs.declared.step.Step.TheVariants.{Asked}
use Rattle.value_walk.proofs.SlotLemmas.{asked-linked}
use Rattle.value_walk.proofs.walk.ask.Goals as goal

pub loop-left-preserved : goal.loop-left-preserved
loop-left-preserved c =
    let scene = c.args.scene.now in
    let slot : Slot = slice_index_or c.args.reads.now (c.loop-left.left - 1) (record { variable = 0; place = 0 }) in
    let pushed : c.push.new.self ≡ Asked slot ∷ c.loop-left.work = c.in_ok-push.ensures.ok in
    let before = c.loop-left.invariant in
    let pending : IsPending scene c.args.reader c.args.states.now slot = c.requires.pending (c.loop-left.left - 1) (record { variable = 0; place = 0 }) (omega arith) in (
      omega arith,
      subst (λ w. IsLinked scene w) (sym pushed) (asked-linked scene c.args.states.now c.args.reader slot c.loop-left.work pending before.2 before.1),
      ap latest pushed ∙ before.2,
      λ step i. subst (λ w. IsIn step w) (sym pushed) (inr (before.3 step i)),
    )
