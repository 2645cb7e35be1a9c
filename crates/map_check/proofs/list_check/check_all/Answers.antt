use Rattle.std.proofs.Common.{◌≡◌, List, map, Option, sym, subst, inl, ◌∙◌}
use Rattle.std.specs.Prelude.{◌⊎◌}
use Rattle.std.specs.Option.{option_copied}
use Rattle.cert_text.specs.declared.certificate.Proved.{Proved}
use Rattle.order_sets.specs.Orders.{StatedClaim}
use Rattle.order_sets.specs.Stated.{stated_claim, IsRefutable}
use Rattle.map_verify.specs.Certificates.{IsProvedBy}
use Rattle.map_verify.specs.Formulas.{HasFewCases}
use Rattle.map_verify.specs.Mistakes.{IsMistakeAt, IsMistake, HasMore}
use Rattle.map_verify.specs.declared.fault.BadCertificate.{BadCertificate}
use Rattle.map_verify.specs.declared.fault.BadCertificate.TheVariants.{Extra}
use Rattle.map_check.proofs.Places.{zip_one}
use Rattle.map_check.proofs.Mistaken.{mistakes_more}
use Rattle.map_verify.proofs.Placed.{claim_has, claim_placed}
use Rattle.map_check.proofs.list_check.check_all.Goals as goal

pub check_place-requires-clause-refutable : goal.check_place-requires-clause-refutable
check_place-requires-clause-refutable c =
    claim_has c.args.formulas.now c.formulas.number c.index-formulas-number.result c.formulas-test.true c.index-formulas-number.is IsRefutable c.requires.refutable

pub check_place-requires-clause-few : goal.check_place-requires-clause-few
check_place-requires-clause-few c =
    claim_has c.args.formulas.now c.formulas.number c.index-formulas-number.result c.formulas-test.true c.index-formulas-number.is HasFewCases c.requires.few

pub returns-in-Err : goal.returns-in-Err
returns-in-Err c =
    let list = c.args.formulas.now in
    let i = c.formulas.number in
    let stated = c.index-formulas-number.result in
    let all : List StatedClaim = map stated_claim list in
    let proved : List Proved = c.args.proved.now in
    let version = c.args.version in
    let placed = claim_placed list i stated c.formulas-test.true c.index-formulas-number.is in
    let P : BadCertificate → Type 0 = λ wrong. IsMistakeAt version (stated_claim stated) (option_copied c.get.result) wrong in
    let Q : BadCertificate → Type 0 = λ wrong. IsMistake version all proved wrong ⊎ ((wrong ≡ Extra) × HasMore version all proved) in
    mistakes_more P Q c.in-Err.mistake (λ wrong at. inl (record {
      number = i;
      here = stated_claim stated;
      place = placed;
      before = c.formulas.invariant;
      mistaken = subst (λ (o : Option Proved). IsMistakeAt version (stated_claim stated) o wrong) c.get.ensures at;
    })) c.in-Err.ensures

pub formulas-preserved : goal.formulas-preserved
formulas-preserved c =
    let list = c.args.formulas.now in
    let i = c.formulas.number in
    let stated = c.index-formulas-number.result in
    let all : List StatedClaim = map stated_claim list in
    let proved : List Proved = c.args.proved.now in
    let placed = claim_placed list i stated c.formulas-test.true c.index-formulas-number.is in
    let found = c.in-Ok.ensures in
    zip_one (IsProvedBy c.args.version) all proved i (stated_claim stated) found.0 placed (sym c.get.ensures ∙ found.1) c.formulas.invariant found.2
