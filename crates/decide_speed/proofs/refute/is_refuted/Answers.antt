use Rattle.std.proofs.Common.{subst, pos, Ok, Err}
use Rattle.az_lin.specs.Derivation.{IsStep}
use Rattle.az_lin.specs.declared.step.Step.{Step}
use Rattle.farkas_check.specs.Verdict.{IsVerdict}
use Rattle.farkas_check.specs.declared.fault.CheckFault.{CheckFault}
use Rattle.farkas_find.specs.Verdict.{Decides}
use Rattle.farkas_find.specs.declared.verdict.Decision.{Decision}
use Rattle.farkas_find.specs.declared.verdict.Decision.TheVariants.{Refuted}
use Rattle.decide_speed.proofs.Agreed.{no_bad_step}
use Rattle.decide_speed.proofs.refute.is_refuted.Goals as goal

-- the derivation is valid, so the checker finds no bad step
pub unreachable-requires : goal.unreachable-requires
unreachable-requires c =
    let answered : Decides c.args.system.now (Ok c.in_ok-derivation.field-0) = c.in_ok-derivation.ensures.answer in
    let Q : Decision → Type 0 = λ d. Decides c.args.system.now (Ok d) in
    let refuted : Decides c.args.system.now (Ok (Refuted c.in-Refuted.derivation)) = subst Q c.in-Refuted.is answered in
    let R : CheckFault → Type 0 = λ f. IsVerdict IsStep c.args.system.now.rows c.in-Refuted.derivation.steps (Err f) in
    let found : R c.in-Err-BadStep.field-0 = c.in-Err-BadStep.ensures.verdict in
    let bad = subst R c.in-Err-BadStep.field-0-is found in
    let step : Step = record { a = pos 0; i = 0; b = pos 0; j = 0; g = pos 0 } in
    no_bad_step c.args.system.now.rows c.in-Refuted.derivation.steps c.in-Err-BadStep.field-0-0 step refuted.valid bad
