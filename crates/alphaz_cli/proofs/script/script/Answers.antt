use Rattle.std.proofs.Common.{◌≡◌, List, ℕ, rules, subst, sym}
use Rattle.std.specs.Prelude.{Err}
use Rattle.script_files.proofs.Stops.{has_tokens}
use Rattle.script_files.specs.Commands.{commands_in}
use Rattle.script_files.specs.Places.{HasTokens}
use Rattle.session_state.proofs.Taking.{stops_first, goes_on, alone_takes, left_alone}
use Rattle.session_state.specs.Steps.{◌>>=◌, TakesAlone}
use Rattle.session_state.specs.Texts.{text_of}
use Rattle.alphaz_cli.specs.Scripts.{tasks_in}
use Rattle.alphaz_cli.proofs.script.script.Goals as goal

pub returns-in_err-text-clause-answer : goal.returns-in_err-text-clause-answer
returns-in_err-text-clause-answer g c =
    let file = c.args.file.now in
    let handed : c.from_residual.result ≡ Err c.in_err-text.field-0.0 = search rules in
    rw handed (stops_first (λ call. Unit {0}) (text_of (g.D.Desk.seen c.args.desk.now).files file)
    (λ text. commands_in file text >>= tasks_in file text) c.in_err-text.field-0.0 c.in_err-text.ensures.answer)

pub returns-in_err-commands-clause-answer : goal.returns-in_err-commands-clause-answer
returns-in_err-commands-clause-answer g c =
    let file = c.args.file.now in
    let text = c.in_ok-text.text in
    let stop = c.in_err-commands.field-0.0 in
    let handed : c.from_residual-in_err-commands.result ≡ Err stop = search rules in
    let stopped = alone_takes (commands_in file text) (Err stop) (subst (λ (t : List ℕ). TakesAlone (commands_in file t) (Err stop)) c.as_slice.ensures c.in_err-commands.ensures) in
    rw handed (goes_on (λ call. Unit {0}) (text_of (g.D.Desk.seen c.args.desk.now).files file)
    (λ t. commands_in file t >>= tasks_in file t) text (Err stop) c.in_ok-text.ensures.answer
    (stops_first (λ call. Unit {0}) (commands_in file text) (tasks_in file text) stop stopped))

pub tasks_in-requires : goal.tasks_in-requires
tasks_in-requires g c =
    let text = c.in_ok-text.text in
    subst HasTokens (sym c.as_slice-2.ensures) (has_tokens text c.in_ok-commands.commands (rw c.as_slice.ensures at c.in_ok-commands.ensures))

pub returns-clause-answer : goal.returns-clause-answer
returns-clause-answer g c =
    let file = c.args.file.now in
    let text = c.in_ok-text.text in
    let commands = c.in_ok-commands.commands in
    let read = rw c.as_slice.ensures at c.in_ok-commands.ensures in
    let taken = subst (λ (t : List ℕ). TakesAlone (tasks_in file t commands) c.tasks_in.result) c.as_slice-2.ensures c.tasks_in.ensures in
    goes_on (λ call. Unit {0}) (text_of (g.D.Desk.seen c.args.desk.now).files file)
    (λ t. commands_in file t >>= tasks_in file t) text c.tasks_in.result c.in_ok-text.ensures.answer
    (goes_on (λ call. Unit {0}) (commands_in file text) (tasks_in file text) commands c.tasks_in.result read
    (alone_takes (tasks_in file text commands) c.tasks_in.result taken))

pub returns-clause-left : goal.returns-clause-left
returns-clause-left g c = left_alone (tasks_in c.args.file.now c.as_slice-2.result.now c.in_ok-commands.commands) _ _ c.tasks_in.result c.tasks_in.ensures c.in_ok-text.ensures.left
