use Rattle.std.proofs.Common.{inr, subst}
use Rattle.std.specs.Prelude.{Ok, Err}
use Rattle.az_ast.specs.Shapes.{IsProgram}
use Rattle.map_verify.specs.Promise.{IsCertifiedIfYes}
use Rattle.map_verify.specs.Verdicts.{Verifies}
use Rattle.map_verify.specs.declared.verdict.Verdict.{Verdict}
use Rattle.map_verify.specs.declared.verdict.Verdict.TheVariants.{No}
use Rattle.verify_commands.proofs.Named.{certificate_named}
use Rattle.verify_commands.proofs.Stops.{refused_by}
use Rattle.verify_commands.proofs.verification.decided.Goals as goal

pub returns-in-Ok-Yes-clause-answer : goal.returns-in-Ok-Yes-clause-answer
returns-in-Ok-Yes-clause-answer g c =
    let P : Verdict → Type 0 = λ v. Verifies c.args.checked.now c.args.mapping.now (Ok v) in
    subst P c.in-Ok-Yes.field-0-is c.in-Ok-Yes.ensures.answer

pub returns-in-Ok-Yes-clause-sound : goal.returns-in-Ok-Yes-clause-sound
returns-in-Ok-Yes-clause-sound g c =
    let p = c.args.checked.now in
    let m = c.args.mapping.now in
    let P : Verdict → Type 0 = λ v. Verifies p m (Ok v) in
    let Q : Verdict → Type 0 = λ v. IsCertifiedIfYes p m v in
    let yes = subst P c.in-Ok-Yes.field-0-is c.in-Ok-Yes.ensures.answer in
    let kept = subst Q c.in-Ok-Yes.field-0-is c.in-Ok-Yes.ensures.yes in
    let program : IsProgram p = subst IsProgram c.program-program.ensures.value c.variables-rules.ensures.rules in
    record {
      certified = yes.1;
      promise = kept.0;
      version = inr yes.2.version;
      names = certificate_named p program m c.requires.complete c.in-Ok-Yes.certificate.proved yes.2.refuted;
    }

pub returns-in-Ok-Yes-clause-shown : goal.returns-in-Ok-Yes-clause-shown
returns-in-Ok-Yes-clause-shown g c =
    let Q : Verdict → Type 0 = λ v. IsCertifiedIfYes c.args.checked.now c.args.mapping.now v in
    let kept = subst Q c.in-Ok-Yes.field-0-is c.in-Ok-Yes.ensures.yes in
    kept.1

pub returns-in-Ok-No-clause-answer : goal.returns-in-Ok-No-clause-answer
returns-in-Ok-No-clause-answer g c =
    let p = c.args.checked.now in
    let m = c.args.mapping.now in
    let P : Verdict → Type 0 = λ v. Verifies p m (Ok v) in
    refused_by p m c.program-program.result.now (Ok (No c.in-Ok-No.which c.in-Ok-No.case_no c.in-Ok-No.point)) c.open_case.result c.program-program.ensures.value
    (subst P c.in-Ok-No.field-0-is c.in-Ok-No.ensures.answer) c.open_case.ensures

pub returns-in-Err-clause-answer : goal.returns-in-Err-clause-answer
returns-in-Err-clause-answer g c =
    refused_by c.args.checked.now c.args.mapping.now c.program-program.result.now (Err c.in-Err.fault) c.undecided.result c.program-program.ensures.value c.in-Err.ensures.answer c.undecided.ensures
