use Rattle.std.proofs.Common.{rules, ◌≡◌, ◌∷◌, sym, subst}
use Rattle.std.specs.Prelude.{ℤ, FitsSigned, IfSome}
use Rattle.std.proofs.lemmas.Int.{to_z-of_z}
use Rattle.std.specs.Int.{w64, cast_signed, cast_unsigned}
use Rattle.value_walk.specs.Inner.Ready.{MeansIn}
use Rattle.value_walk.specs.Inner.Slots.{point_of}
use Rattle.value_walk.specs.Inner.Walks.{IsGood, IsIn, AreKept}
use Rattle.value_walk.specs.Meanings.{IsCause}
use Rattle.value_walk.specs.declared.step.Step.TheVariants.{Begun}
use Rattle.value_walk.proofs.SlotLemmas.{settled-good, settled-kept, due-kept, on_ok, fault-cause}
use Rattle.value_walk.proofs.walk.Walk.settle.Goals as goal

pub open-requires-clause-good : goal.open-requires-clause-good
open-requires-clause-good c =
    record {
      stated = c.requires.good.stated;
      linked = c.in_ok-ask-in-Ok-None.ensures.linked;
      open_ones = λ s h e. c.in_ok-ask-in-Ok-None.ensures.kept (Begun s) (subst (λ w. IsIn (Begun s) w) (sym c.in_ok-push-in-Ok-None.ensures.ok) (c.requires.good.open_ones s h e));
    }

pub returns-in-Err-clause-cause : goal.returns-in-Err-clause-cause
returns-in-Err-clause-cause c =
    subst (IsCause c.args.scene.now.program.now c.args.scene.now.params.now) (sym c.of_scan.ensures) (fault-cause c.args.scene.now c.args.slot c.in-Err.fault c.in-Err.ensures.cause)

pub returns-in-Ok-Some-clause-good : goal.returns-in-Ok-Some-clause-good
returns-in-Ok-Some-clause-good c =
    let v : ℤ = c.in-Ok-Some.value in
    let fits : FitsSigned w64 v = search rules in
    let word : v ≡ cast_signed w64 (cast_unsigned w64 v) = sym (to_z-of_z w64 v fits) in
    let scene = c.args.scene.now in
    let slot = c.args.slot in
    let means = subst (λ w. MeansIn scene slot.variable (point_of scene.points.now slot) w) word (subst (λ f. IfSome f (MeansIn scene slot.variable (point_of scene.points.now slot))) c.in-Ok-Some.field-0-is c.in-Ok-Some.ensures.value) in
    subst (λ w. IsGood scene c.set.new.self.states.items w) (sym c.set.ensures.work)
    (subst (λ s. IsGood scene s c.args.self.now.work) (sym c.set.ensures.states) (settled-good scene c.args.self.now.states.items slot c.args.self.now.work (cast_signed w64 (cast_unsigned w64 v)) c.requires.good means))

pub returns-in-Ok-Some-clause-kept : goal.returns-in-Ok-Some-clause-kept
returns-in-Ok-Some-clause-kept c =
    let v : ℤ = cast_signed w64 (cast_unsigned w64 c.in-Ok-Some.value) in
    let scene = c.args.scene.now in
    let before = c.args.self.now.states.items in
    let slot = c.args.slot in
    subst (λ w. AreKept scene before (Begun slot ∷ c.args.self.now.work) c.set.new.self.states.items w) (sym c.set.ensures.work)
    (subst (λ s. AreKept scene before (Begun slot ∷ c.args.self.now.work) s c.args.self.now.work) (sym c.set.ensures.states) (settled-kept scene before slot c.args.self.now.work v c.requires.good))

pub returns-clause-kept : goal.returns-clause-kept
returns-clause-kept c =
    on_ok c.open.result
    (λ kept s h due. kept s h (due-kept c.args.self.now.states.items (Begun c.args.slot ∷ c.args.self.now.work) c.ask.new.work s
    (λ step i. c.in_ok-ask-in-Ok-None.ensures.kept step (subst (λ w. IsIn step w) (sym c.in_ok-push-in-Ok-None.ensures.ok) i)) due)) c.open.ensures.kept
