-- What a verdict gives beyond its definition: Yes a certified mapping and a certificate that is accepted, No an open
-- point.
use Rattle.std.proofs.Common.{◌≡◌, ℕ, ◌<◌, ◌≤◌, List, length, Some, Result, Ok, Err, All, IfOk, refl, sym, subst, arith}
use Rattle.std.specs.Prelude.{slice_get, IsSomeAnd}
use Rattle.std.proofs.lemmas.List.Elements.{All-get_or}
use Rattle.std.proofs.lemmas.Option.{get_or_from_slice_get, slice_get_within}
use Rattle.az_lin.specs.Affine.{Polyhedron}
use Rattle.az_lin.specs.declared.step.RatPoint.{RatPoint}
use Rattle.az_ast.specs.Shapes.{IsProgram}
use Rattle.az_ast.specs.System.{System}
use Rattle.cert_text.specs.declared.certificate.Certificate.{Certificate}
use Rattle.formula_refute.specs.Fronts.{open_at}
use Rattle.formula_refute.specs.Promise.{StopsAtCase}
use Rattle.formula_refute.specs.declared.front.Stop.TheVariants as stop
use Rattle.formula_refute.specs.declared.refutation.Answer.TheVariants as answer
use Rattle.formula_refute.proofs.CaseWidths.{length-systems}
use Rattle.formula_refute.proofs.Promises.{no_is_open}
use Rattle.life_sets.proofs.Certified.{certified_by_formulas}
use Rattle.order_sets.specs.Orders.{StatedClaim}
use Rattle.target_map.specs.Promise.{IsCertifiedMap}
use Rattle.target_map.specs.Settings.{TargetMapping, IsMapping, IsComplete}
use Rattle.target_map.specs.declared.which.Which.{Which}
use Rattle.map_verify.specs.Certificates.{IsProvedBy}
use Rattle.map_verify.specs.Formulas.{formulas, systems_of, HasFewCases, AreReady}
use Rattle.map_verify.specs.Promise.{IsAccepted, IsOpenCase, IsOpenIfNo}
use Rattle.map_verify.specs.Verdicts.{StopsAt, IsRefuted, Verifies}
use Rattle.map_verify.specs.declared.fault.VerifyFault.{VerifyFault}
use Rattle.map_verify.specs.declared.verdict.Verdict.{Verdict}
use Rattle.map_verify.specs.declared.verdict.Verdict.TheVariants.{Yes, No}
use Rattle.map_verify.proofs.Falsity.{refuted_proved}

open_case : (all : List StatedClaim) (which : Which) (case_no : ℕ) (point : RatPoint) → All HasFewCases all → StopsAt all which case_no (stop.Point point) → IsOpenCase all which case_no point
open_case all which case_no point few at =
    let here : StatedClaim = at.here in
    let number : ℕ = length at.before in
    let within : number < length all = slice_get_within all number here at.reached.place in
    let same = get_or_from_slice_get all number here here at.reached.place in
    let own : HasFewCases here = subst HasFewCases same (All-get_or HasFewCases all number here within few) in
    let count = length-systems here.width here.claim in
    let stops : StopsAtCase (systems_of here) case_no (stop.Point point) = record { derivations = at.derivations; front = at.front; here = at.number } in
    record {
      number = number;
      stated = here;
      place = at.reached.place;
      name = at.name;
      is_open = no_is_open (systems_of here) (Ok (answer.No case_no point)) (omega (arith, own, count), stops);
    }

pub no_is_open_case : (p : System) (m : TargetMapping) (result : Result Verdict VerifyFault) → Verifies p m result → IfOk result (IsOpenIfNo p m)
no_is_open_case p m (Ok (Yes certified certificate)) h = tt
no_is_open_case p m (Ok (No which case_no point)) h = let ready = h.0 in open_case (formulas p m) which case_no point ready.few h.1
no_is_open_case p m (Err fault) h = tt

pub yes_is_accepted : (p : System) (m : TargetMapping) (certificate : Certificate) → AreReady p m → IsRefuted (formulas p m) certificate → IsAccepted p m certificate
yes_is_accepted p m certificate ready is = record { ready = ready; certificate_is = refuted_proved (formulas p m) certificate is }
