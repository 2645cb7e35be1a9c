use Rattle.std.proofs.Common.{◌≡◌, rules, sym, subst}
use Rattle.std.specs.Prelude.{Some, Ok, Err}
use Rattle.session_state.specs.Session.{Session, IsOfProgram, IsSound}
use Rattle.session_state.specs.Steps.{TakesAlone}
use Rattle.rewrite_commands.specs.Changes.{inlining}
use Rattle.rewrite_commands.specs.Commands.{inline}
use Rattle.rewrite_commands.proofs.Kept.{inlining_params}
use Rattle.rewrite_commands.proofs.Taken.{changing_takes, changing_stops}
use Rattle.rewrite_commands.proofs.commands.inline.Goals as goal

pub returns-in_err-changed-clause-answer : goal.returns-in_err-changed-clause-answer
returns-in_err-changed-clause-answer c =
    let stop = c.in_err-changed.field-0.0 in
    let handed : c.from_residual.result ≡ Err stop = search rules in
    let there : c.args.session.now ≡ Some c.in-Some.loaded = search rules in
    rw handed (subst (λ (s : Session). TakesAlone (inline s c.args.into.now c.args.target.now) (Err stop)) (sym there)
    (changing_stops c.in-Some.loaded (inlining c.args.into.now c.args.target.now) stop c.in_err-changed.ensures))

pub returns-clause-answer : goal.returns-clause-answer
returns-clause-answer c =
    let now = c.change.new.loaded in
    let there : c.args.session.now ≡ Some c.in-Some.loaded = search rules in
    subst (λ (s : Session). TakesAlone (inline s c.args.into.now c.args.target.now) (Ok (record { session = Some now; text = c.new.result }))) (sym there)
    (changing_takes c.in-Some.loaded (inlining c.args.into.now c.args.target.now) c.in_ok-changed.changed now c.new.result c.in_ok-changed.ensures c.change.ensures.value c.new.ensures)

pub returns-clause-sound : goal.returns-clause-sound
returns-clause-sound c =
    let there : c.args.session.now ≡ Some c.in-Some.loaded = search rules in
    let sound : IsOfProgram c.in-Some.loaded = subst IsSound there c.requires.sound in
    c.change.ensures.sound (inlining_params c.args.into.now c.args.target.now c.in-Some.loaded.current c.in_ok-changed.changed c.in_ok-changed.ensures) sound
