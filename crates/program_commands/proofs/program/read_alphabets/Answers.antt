use Rattle.std.proofs.Common.{◌≡◌, List, ℕ, rules, subst}
use Rattle.std.specs.Prelude.{Ok, Err}
use Rattle.session_state.proofs.Taking.{stops_first, goes_on, alone_takes, left_alone, left_then, left_stop}
use Rattle.session_state.specs.Steps.{◌>>=◌, TakesAlone}
use Rattle.session_state.specs.Texts.{text_of}
use Rattle.program_commands.specs.Programs.{program_in, certified}
use Rattle.program_commands.proofs.program.read_alphabets.Goals as goal

pub returns-in_err-text-clause-answer : goal.returns-in_err-text-clause-answer
returns-in_err-text-clause-answer g c =
    let handed : c.from_residual.result ≡ Err c.in_err-text.field-0.0 = search rules in
    rw handed (stops_first (λ call. Unit {0}) (text_of (g.D.Desk.seen c.args.desk.now).files c.args.file.now)
    (λ text. program_in c.args.file.now text >>= certified) c.in_err-text.field-0.0 c.in_err-text.ensures.answer)

pub returns-in_err-program-clause-answer : goal.returns-in_err-program-clause-answer
returns-in_err-program-clause-answer g c =
    let handed : c.from_residual-in_err-program.result ≡ Err c.in_err-program.field-0.0 = search rules in
    let stopped = alone_takes (program_in c.args.file.now c.in_ok-text.text) (Err c.in_err-program.field-0.0) (subst (λ (t : List ℕ). TakesAlone (program_in c.args.file.now t) (Err c.in_err-program.field-0.0)) c.as_slice.ensures c.in_err-program.ensures) in
    rw handed (goes_on (λ call. Unit {0}) (text_of (g.D.Desk.seen c.args.desk.now).files c.args.file.now)
    (λ text. program_in c.args.file.now text >>= certified) c.in_ok-text.text (Err c.in_err-program.field-0.0) c.in_ok-text.ensures.answer
    (stops_first (λ call. Unit {0}) (program_in c.args.file.now c.in_ok-text.text) certified c.in_err-program.field-0.0 stopped))

pub returns-clause-answer : goal.returns-clause-answer
returns-clause-answer g c =
    let read = rw c.as_slice.ensures at c.in_ok-program.ensures in
    goes_on (λ call. Unit {0}) (text_of (g.D.Desk.seen c.args.desk.now).files c.args.file.now)
    (λ text. program_in c.args.file.now text >>= certified) c.in_ok-text.text c.certified.result c.in_ok-text.ensures.answer
    (goes_on (λ call. Unit {0}) (program_in c.args.file.now c.in_ok-text.text) certified c.in_ok-program.program c.certified.result read
    (alone_takes (certified c.in_ok-program.program) c.certified.result c.certified.ensures))

pub returns-clause-left : goal.returns-clause-left
returns-clause-left g c = left_alone (certified c.in_ok-program.program) _ _ c.certified.result c.certified.ensures c.in_ok-text.ensures.left
