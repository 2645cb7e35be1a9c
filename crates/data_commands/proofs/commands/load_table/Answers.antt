use Rattle.std.proofs.Common.{◌≡◌, List, ℕ, rules, sym, subst}
use Rattle.std.specs.Prelude.{Some, Ok, Err}
use Rattle.az_ast.specs.System.{System}
use Rattle.session_state.specs.Session.{Session}
use Rattle.session_state.specs.Settings.{Settings}
use Rattle.session_state.specs.Steps.{Takes}
use Rattle.data_commands.specs.Commands.{load_table}
use Rattle.data_commands.specs.Tables.{read_input}
use Rattle.data_commands.proofs.Opened.{table_stops, table_read}
use Rattle.data_commands.proofs.commands.load_table.Goals as goal

pub returns-in_err-read_input-clause-answer : goal.returns-in_err-read_input-clause-answer
returns-in_err-read_input-clause-answer g c =
    let stop = c.in_err-read_input.field-0.0 in
    let files = (g.D.Desk.seen c.args.desk.now).files in
    let name = c.args.input.now in
    let file = c.args.file.now in
    let loaded = c.in-Some.loaded in
    let handed : c.from_residual.result ≡ Err stop = search rules in
    let there : c.args.session.now ≡ Some loaded = search rules in
    rw handed (subst (λ (s : Session). Takes (load_table files s name file) (Err stop)) (sym there)
    (table_stops files loaded name file stop
    (subst (λ (p : System). Takes (read_input p files loaded.settings loaded.inputs name file) (Err stop)) c.program.ensures.value
    (subst (λ (s : Settings). Takes (read_input c.program.result.now files s loaded.inputs name file) (Err stop)) c.as_slice.ensures c.in_err-read_input.ensures.answer))))

pub returns-clause-answer : goal.returns-clause-answer
returns-clause-answer g c =
    let files = (g.D.Desk.seen c.args.desk.now).files in
    let name = c.args.input.now in
    let file = c.args.file.now in
    let loaded = c.in-Some.loaded in
    let inputs = c.read_input.new.inputs in
    let there : c.args.session.now ≡ Some loaded = search rules in
    subst (λ (s : Session). Takes (load_table files s name file) (Ok (record { session = Some (record loaded { inputs = inputs }); text = c.new.result }))) (sym there)
    (subst (λ (text : List ℕ). Takes (load_table files (Some loaded) name file) (Ok (record { session = Some (record loaded { inputs = inputs }); text = text }))) (sym c.new.ensures)
    (table_read files loaded name file inputs
    (subst (λ (p : System). Takes (read_input p files loaded.settings loaded.inputs name file) (Ok inputs)) c.program.ensures.value
    (subst (λ (s : Settings). Takes (read_input c.program.result.now files s loaded.inputs name file) (Ok inputs)) c.as_slice.ensures c.in_ok-read_input.ensures.answer))))
