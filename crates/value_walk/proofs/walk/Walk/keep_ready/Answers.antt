use Rattle.std.proofs.Common.{rules, ◌≡◌, [], sym, subst, ◌∙◌}
use Rattle.std.specs.Prelude.{ℤ, FitsSigned, IfSome}
use Rattle.std.proofs.lemmas.Int.{to_z-of_z}
use Rattle.std.specs.Int.{w64, cast_signed, cast_unsigned}
use Rattle.value_walk.specs.Inner.Ready.{MeansIn}
use Rattle.value_walk.specs.Inner.Slots.{point_of}
use Rattle.value_walk.specs.Inner.Walks.{IsGood}
use Rattle.value_walk.specs.Meanings.{IsCause}
use Rattle.value_walk.proofs.SlotLemmas.{settled-good, alone-good, fault-cause}
use Rattle.value_walk.proofs.walk.Walk.keep_ready.Goals as goal

pub returns-in-Err-clause-cause : goal.returns-in-Err-clause-cause
returns-in-Err-clause-cause c =
    subst (IsCause c.args.scene.now.program.now c.args.scene.now.params.now) (sym c.of_scan.ensures) (fault-cause c.args.scene.now c.args.slot c.in-Err.fault c.in-Err.ensures.cause)

pub returns-in-Ok-Some-clause-good : goal.returns-in-Ok-Some-clause-good
returns-in-Ok-Some-clause-good c =
    let v : ℤ = c.in-Ok-Some.value in
    let fits : FitsSigned w64 v = search rules in
    let word : v ≡ cast_signed w64 (cast_unsigned w64 v) = sym (to_z-of_z w64 v fits) in
    let scene = c.args.scene.now in
    let slot = c.args.slot in
    let before = c.args.self.now.states.items in
    let means = subst (λ w. MeansIn scene slot.variable (point_of scene.points.now slot) w) word (subst (λ f. IfSome f (MeansIn scene slot.variable (point_of scene.points.now slot))) c.in-Ok-Some.field-0-is c.in-Ok-Some.ensures.value) in
    let alone = alone-good scene before slot c.requires.slot (subst (λ w. IsGood scene before w) c.requires.empty c.requires.good) in
    subst (λ w. IsGood scene c.set.new.self.states.items w) (sym (c.set.ensures.work ∙ c.requires.empty))
    (subst (λ s. IsGood scene s []) (sym c.set.ensures.states) (settled-good scene before slot [] (cast_signed w64 (cast_unsigned w64 v)) alone means))
