use Rattle.std.proofs.Common.{◌≤◌, length, subst}
use Rattle.std.specs.Prelude.{Err}
use Rattle.az_ast.proofs.ProgramLaws.{few_parts}
use Rattle.az_ast.specs.System.{System}
use Rattle.rewriting.specs.declared.fault.ChangeFault.{ChangeFault}
use Rattle.session_state.specs.Steps.{IsStopFor}
use Rattle.rewrite_commands.specs.Inner.{change_refusal, change_before}
use Rattle.rewrite_commands.proofs.Taken.{removal_takes}
use Rattle.rewrite_commands.proofs.removal.without.Goals as goal

pub returns-in-Err : goal.returns-in-Err
returns-in-Err c =
    let name = c.args.name.now in
    let fault = c.in-Err.fault in
    let lent = c.program-program.result.now in
    let few : length c.args.checked.now.variables ≤ 256 = subst (λ (p : System). length p.variables ≤ 256) c.program-program.ensures.value (few_parts lent c.rules.ensures).0 in
    removal_takes c.args.checked.now few name (Err fault) (Err c.unchanged.result)
    (subst (λ (p : System). IsStopFor (change_refusal p (change_before p name fault)) c.unchanged.result) c.program-program.ensures.value
    (subst (λ (f : ChangeFault). IsStopFor (change_refusal lent f) c.unchanged.result) c.change_before.ensures c.unchanged.ensures)) c.in-Err.ensures.answer
