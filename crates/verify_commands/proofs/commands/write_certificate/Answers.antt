use Rattle.std.proofs.Common.{◌≡◌, List, ℕ, rules, subst}
use Rattle.std.specs.Prelude.{Some, Ok, Err}
use Rattle.az_ast.specs.System.{System}
use Rattle.session_state.specs.Steps.{TakesAlone}
use Rattle.session_state.specs.Writings.{IsLeftWith}
use Rattle.verify_commands.specs.Commands.{certificate_text, certificate_file}
use Rattle.verify_commands.proofs.Writing.{unopened, uncertified, too_long, unwritten, was_written, file_is, moved_by_fault}
use Rattle.verify_commands.proofs.commands.write_certificate.Goals as goal

pub returns-in_err-loaded-clause-answer : goal.returns-in_err-loaded-clause-answer
returns-in_err-loaded-clause-answer g c =
    let stop = c.in_err-loaded.field-0.0 in
    let handed : c.from_residual.result ≡ Err stop = search rules in
    rw handed (unopened c.args.session.now c.args.file.now stop c.in_err-loaded.ensures.answer)

pub returns-in_err-verified-clause-answer : goal.returns-in_err-verified-clause-answer
returns-in_err-verified-clause-answer g c =
    let stop = c.in_err-verified.field-0.0 in
    let handed : c.from_residual-in_err-verified.result ≡ Err stop = search rules in
    rw handed (uncertified c.args.session.now c.args.file.now c.in_ok-loaded.loaded.now c.in_ok-loaded.ensures.answer stop c.in_err-verified.ensures.answer)

pub returns-in_err-text-clause-answer : goal.returns-in_err-text-clause-answer
returns-in_err-text-clause-answer g c =
    let stop = c.in_err-text.field-0.0 in
    let verified = c.in_ok-verified.verified.now in
    let handed : c.from_residual-in_err-text.result ≡ Err stop = search rules in
    rw handed (too_long c.args.session.now c.args.file.now c.in_ok-loaded.loaded.now c.in_ok-loaded.ensures.answer verified c.in_ok-verified.ensures.answer stop
    (subst (λ (p : System). TakesAlone (certificate_text p verified.certificate) (Err stop)) c.program-program.ensures.value c.in_err-text.ensures))

pub returns-in_err-write_file-clause-answer : goal.returns-in_err-write_file-clause-answer
returns-in_err-write_file-clause-answer g c =
    let stop = c.in_err-write_file.field-0.0 in
    let verified = c.in_ok-verified.verified.now in
    let text = c.in_ok-text.text in
    let handed : c.from_residual-in_err-write_file.result ≡ Err stop = search rules in
    rw handed (unwritten c.args.session.now c.args.file.now c.in_ok-loaded.loaded.now c.in_ok-loaded.ensures.answer verified c.in_ok-verified.ensures.answer text
    (subst (λ (p : System). certificate_text p verified.certificate (Ok text)) c.program-program.ensures.value c.in_ok-text.ensures) stop c.in_err-write_file.ensures.answer)

pub returns-in_err-write_file-clause-left : goal.returns-in_err-write_file-clause-left
returns-in_err-write_file-clause-left g c =
    let stop = c.in_err-write_file.field-0.0 in
    let name = c.args.file.now in
    let verified = c.in_ok-verified.verified.now in
    let text = c.in_ok-text.text in
    let old = g.D.Desk.seen c.args.desk.now in
    let new = g.D.Desk.seen c.write_file.new.desk in
    let handed : c.from_residual-in_err-write_file.result ≡ Err stop = search rules in
    rw handed (moved_by_fault name text (certificate_file c.args.session.now name) old new stop
    (file_is c.args.session.now name c.in_ok-loaded.loaded.now c.in_ok-loaded.ensures.answer verified c.in_ok-verified.ensures.answer text
    (subst (λ (p : System). certificate_text p verified.certificate (Ok text)) c.program-program.ensures.value c.in_ok-text.ensures))
    (subst (λ (bytes : List ℕ). IsLeftWith {A = Unit {0}} (Some (record { name = name; bytes = bytes })) old (Err stop) new) c.as_slice.ensures c.in_err-write_file.ensures.left))

pub returns-clause-answer : goal.returns-clause-answer
returns-clause-answer g c =
    let verified = c.in_ok-verified.verified.now in
    let text = c.in_ok-text.text in
    was_written c.args.session.now c.args.file.now c.in_ok-loaded.loaded.now c.in_ok-loaded.ensures.answer verified c.in_ok-verified.ensures.answer text
    (subst (λ (p : System). certificate_text p verified.certificate (Ok text)) c.program-program.ensures.value c.in_ok-text.ensures) c.new.result c.new.ensures
