use Rattle.std.proofs.Common.{refl, subst}
use Rattle.std.specs.Prelude.{Ok, Err}
use Rattle.az_ast.specs.Certified.{IsCertified}
use Rattle.az_ast.specs.System.{System}
use Rattle.session_state.specs.Steps.{IsStopFor}
use Rattle.rewrite_commands.specs.Inner.{change_refusal}
use Rattle.rewrite_commands.proofs.Taken.{inlining_takes}
use Rattle.rewrite_commands.proofs.inlining.inlined.Goals as goal

pub returns-in-Ok : goal.returns-in-Ok
returns-in-Ok c =
    inlining_takes c.args.checked.now c.args.into.now c.args.target.now (Ok c.in-Ok.changed) (Ok c.in-Ok.changed)
    (refl, subst IsCertified c.program.ensures.value c.program.ensures.certified) c.in-Ok.ensures.answer

pub returns-in-Err : goal.returns-in-Err
returns-in-Err c =
    inlining_takes c.args.checked.now c.args.into.now c.args.target.now (Err c.in-Err.fault) (Err c.unchanged.result)
    (subst (λ (p : System). IsStopFor (change_refusal p c.in-Err.fault) c.unchanged.result) c.program-in-Err.ensures.value c.unchanged.ensures) c.in-Err.ensures.answer
