use Rattle.std.proofs.Common.{◌≡◌, rules, subst}
use Rattle.std.specs.Prelude.{Ok, Err}
use Rattle.az_ast.specs.System.{System}
use Rattle.session_state.specs.Steps.{TakesAlone}
use Rattle.verify_commands.proofs.Stops.{completes, incomplete, completed_decided}
use Rattle.verify_commands.proofs.verification.verification.Goals as goal

pub returns-in_err-completed-clause-answer : goal.returns-in_err-completed-clause-answer
returns-in_err-completed-clause-answer g c =
    let stop = c.in_err-completed.field-0.0 in
    let m = c.args.mapping.now in
    let handed : c.from_residual.result ≡ Err stop = search rules in
    rw handed (incomplete c.args.checked.now m stop (subst (λ (p : System). TakesAlone (completes p m) (Err stop)) c.program.ensures.value c.in_err-completed.ensures.answer))

pub returns-clause-answer : goal.returns-clause-answer
returns-clause-answer g c =
    let m = c.args.mapping.now in
    completed_decided c.args.checked.now m c.decided.result
    (subst (λ (p : System). TakesAlone (completes p m) (Ok tt)) c.program.ensures.value c.in_ok-completed.ensures.answer) c.decided.ensures.answer
