use Rattle.std.proofs.Common.{◌≡◌, ◌∙◌, rules, sym, subst}
use Rattle.std.specs.Prelude.{Err}
use Rattle.az_ast.specs.System.{System}
use Rattle.session_state.specs.Settings.{Settings}
use Rattle.data_commands.specs.Tables.{AreRead}
use Rattle.alphaz_cli.proofs.Evaluating.{unset_stops, unread_stops, rows_taken}
use Rattle.alphaz_cli.proofs.eval.evaluated.Goals as goal

pub returns-in_err-settings-clause-answer : goal.returns-in_err-settings-clause-answer
returns-in_err-settings-clause-answer g c =
    let stop = c.in_err-settings.field-0.0 in
    let handed : c.from_residual.result ≡ Err stop = search rules in
    rw handed (unset_stops (g.D.Desk.seen c.args.desk.now).files c.args.asked.now c.args.checked.now c.program-program.result.now c.program-program.ensures.value
    c.as_slice-bindings.result.now c.as_slice-bindings.ensures stop c.in_err-settings.ensures.answer)

pub returns-in_err-inputs-clause-answer : goal.returns-in_err-inputs-clause-answer
returns-in_err-inputs-clause-answer g c =
    let stop = c.in_err-inputs.field-0.0 in
    let handed : c.from_residual-in_err-inputs.result ≡ Err stop = search rules in
    rw handed (unread_stops (g.D.Desk.seen c.args.desk.now).files c.args.asked.now c.args.checked.now c.program-program.result.now c.program-program.ensures.value
    c.as_slice-bindings.result.now c.as_slice-bindings.ensures c.in_ok-settings.settings c.as_slice.result.now c.as_slice.ensures c.in_ok-settings.ensures.answer stop
    c.in_err-inputs.ensures.answer)

pub output_rows-requires-clause-read : goal.output_rows-requires-clause-read
output_rows-requires-clause-read g c =
    subst (λ (s : Settings). AreRead c.args.checked.now s c.in_ok-inputs.inputs) (c.as_slice.ensures ∙ sym c.as_slice-2.ensures)
    (subst (λ (q : System). AreRead q c.as_slice.result.now c.in_ok-inputs.inputs) c.program-program.ensures.value c.in_ok-inputs.ensures.read)

pub returns-clause-answer : goal.returns-clause-answer
returns-clause-answer g c =
    rows_taken (g.D.Desk.seen c.args.desk.now).files c.args.asked.now c.args.checked.now c.program-program.result.now c.program-program.ensures.value
    c.as_slice-bindings.result.now c.as_slice-bindings.ensures c.in_ok-settings.settings c.as_slice.result.now c.as_slice.ensures c.in_ok-settings.ensures.answer
    c.in_ok-inputs.inputs c.in_ok-inputs.ensures.answer c.as_slice-2.result.now c.as_slice-2.ensures c.output_rows.result c.output_rows.ensures
