use Rattle.std.proofs.Common.{◌≡◌, rules, sym, subst}
use Rattle.std.specs.Prelude.{Some, Ok, Err}
use Rattle.session_state.specs.Session.{Session, IsOfProgram, IsSound}
use Rattle.session_state.specs.Steps.{TakesAlone}
use Rattle.verify_commands.specs.Commands.{verify_target_mapping}
use Rattle.verify_commands.proofs.Writing.{unverified, yes_kept}
use Rattle.verify_commands.proofs.commands.verify_target_mapping.Goals as goal

pub returns-in_err-verified-clause-answer : goal.returns-in_err-verified-clause-answer
returns-in_err-verified-clause-answer g c =
    let stop = c.in_err-verified.field-0.0 in
    let handed : c.from_residual.result ≡ Err stop = search rules in
    let there : c.args.session.now ≡ Some c.in-Some.loaded = search rules in
    rw handed (subst (λ (s : Session). TakesAlone (verify_target_mapping s) (Err stop)) (sym there) (unverified c.in-Some.loaded stop c.in_err-verified.ensures.answer))

pub returns-clause-answer : goal.returns-clause-answer
returns-clause-answer g c =
    let verified = c.in_ok-verified.verified in
    let there : c.args.session.now ≡ Some c.in-Some.loaded = search rules in
    subst (λ (s : Session). TakesAlone (verify_target_mapping s) (Ok (record { session = Some (record c.in-Some.loaded { verified = Some verified }); text = c.new.result }))) (sym there)
    (yes_kept c.in-Some.loaded verified c.new.result c.in_ok-verified.ensures.answer c.new.ensures)

pub returns-clause-sound : goal.returns-clause-sound
returns-clause-sound g c =
    let there : c.args.session.now ≡ Some c.in-Some.loaded = search rules in
    let sound : IsOfProgram c.in-Some.loaded = subst IsSound there c.requires.sound in
    record { settings = sound.settings; mapping = sound.mapping; verified = c.in_ok-verified.ensures.sound }
