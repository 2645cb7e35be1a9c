use Rattle.std.proofs.Common.{◌≡◌, List, ℕ, rules, subst}
use Rattle.std.specs.Prelude.{Err}
use Rattle.std.specs.FinMap.{insert}
use Rattle.session_state.proofs.Taking.{stops_first, goes_on, alone_takes}
use Rattle.session_state.specs.Steps.{◌>>=◌, TakesAlone, gives}
use Rattle.session_state.specs.Texts.{text_of}
use Rattle.data_commands.specs.Tables.{input, table_of}
use Rattle.data_commands.proofs.inputs.read_input.Goals as goal

pub returns-in_err-table-clause-answer : goal.returns-in_err-table-clause-answer
returns-in_err-table-clause-answer g c =
    let p = c.args.program.now in
    let files = (g.D.Desk.seen c.args.desk.now).files in
    let settings = c.args.settings.now in
    let tables = c.args.inputs.now in
    let name = c.args.name.now in
    let file = c.args.file.now in
    let x = c.in_ok-number.number in
    let text = c.in_ok-text.text in
    let stop = c.in_err-table.field-0.0 in
    let handed : c.from_residual-in_err-table.result ≡ Err stop = search rules in
    let stopped = subst (λ (t : List ℕ). TakesAlone (table_of p settings x name t) (Err stop)) c.as_slice.ensures c.in_err-table.ensures in
    rw handed (goes_on (λ call. Unit {0}) (input p name) (λ n. text_of files file >>= (λ t. table_of p settings n name t >>= (λ rows. gives (insert tables n rows)))) x (Err stop) c.in_ok-number.ensures.answer
    (goes_on (λ call. Unit {0}) (text_of files file) (λ t. table_of p settings x name t >>= (λ rows. gives (insert tables x rows))) text (Err stop) c.in_ok-text.ensures.answer
    (stops_first (λ call. Unit {0}) (table_of p settings x name text) (λ rows. gives (insert tables x rows)) stop (alone_takes (table_of p settings x name text) (Err stop) stopped))))
