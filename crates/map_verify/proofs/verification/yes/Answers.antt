use Rattle.std.proofs.Common.{◌≡◌}
use Rattle.cert_text.specs.declared.certificate.Certificate.{Certificate}
use Rattle.map_verify.specs.Formulas.{formulas}
use Rattle.map_verify.proofs.Falsity.{each_false, refuted_proved}
use Rattle.map_verify.proofs.Promised.{yes_is_accepted}
use Rattle.map_verify.proofs.verification.yes.Goals as goal

pub certified_map-requires-clause-each : goal.certified_map-requires-clause-each
certified_map-requires-clause-each c =
    let all = formulas c.args.checked.now c.args.mapping.now in
    let certificate : Certificate = record { version = 2; proved = c.args.proved } in
    each_false 2 all c.args.proved (refuted_proved all certificate c.requires.refuted)

pub returns-clause-certified : goal.returns-clause-certified
returns-clause-certified c =
    let certificate : Certificate = record { version = 2; proved = c.args.proved } in
    (c.in_ok-certified.ensures.certified, yes_is_accepted c.args.checked.now c.args.mapping.now certificate c.requires.ready c.requires.refuted)
