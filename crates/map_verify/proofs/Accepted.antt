-- A certificate has no mistake.
use Rattle.std.proofs.Common.{◌≡◌, ℕ, zero, suc, ◌<◌, List, [], ◌∷◌, ◌++◌, length, take, get_or, Option, Some, None, Result, Ok, Err, IfErr, refl, sym, ap, subst, inl, inr, ◌∙◌, arith, pos}
use Rattle.std.specs.Prelude.{slice_get}
use Rattle.std.specs.List.{AllZip}
use Rattle.std.proofs.lemmas.Slice.Zip.{AllZip-long}
use Rattle.az_lin.specs.Affine.{Affine}
use Rattle.az_lin.specs.Derivation.{AllSteps, IsDerivation, IsFirstBad, row_of, rows_after}
use Rattle.az_lin.specs.declared.step.Derivation.{Derivation}
use Rattle.az_lin.specs.declared.step.Step.{Step as StepOf}
use Rattle.az_ast.specs.System.{System}
use Rattle.cert_text.specs.declared.certificate.Certificate.{Certificate}
use Rattle.cert_text.specs.declared.certificate.Proved.{Proved}
use Rattle.order_sets.specs.Orders.{StatedClaim}
use Rattle.target_map.specs.Pair.{MappedProgram}
use Rattle.target_map.specs.Settings.{TargetMapping}
use Rattle.map_verify.specs.Certificates.{rule_of, IsProvedCase, IsProvedBy}
use Rattle.map_verify.specs.Formulas.{cases_of, formulas}
use Rattle.map_verify.specs.Mistakes.{IsMistakeIn, IsMistakeAt, IsMistake, HasMore, Checks}
use Rattle.map_verify.specs.Promise.{IsAccepted}
use Rattle.map_verify.specs.declared.fault.BadCertificate.{BadCertificate}
use Rattle.map_verify.specs.declared.fault.BadCertificate.TheVariants.{Step, Missing, Extra, Entry, Limit, Memory}
use Rattle.map_verify.proofs.Alongside.{zip_at}

-- a step of a list whose steps are all good
step_good : (Good : List Affine → StepOf → Type 0) (rows : List Affine) (steps : List StepOf) (n : ℕ) (d : StepOf) → AllSteps Good rows steps → n < length steps
    → Good (rows_after rows (take n steps)) (get_or steps n d)
step_good Good rows [] n d all below = absurd (omega (arith, below))
step_good Good rows (step ∷ steps) zero d all below = all.0
step_good Good rows (step ∷ steps) (suc n) d all below = step_good Good (rows ++ row_of rows step ∷ []) steps n d all.1 (omega (arith, below))

no_bad_step : (Good : List Affine → StepOf → Type 0) (rows : List Affine) (steps : List StepOf) (n : ℕ) (d : StepOf) → IsDerivation Good rows steps → IsFirstBad Good rows steps n → ⊥
no_bad_step Good rows steps n d is bad = elim bad.bad as (λ _. ⊥) [
  | inl here ↦ here.1 d (step_good Good rows steps n d is.steps_good here.0)
  | inr ending ↦ ending.1 is.ends
]

no_step : StepOf
no_step = record { a = pos 0; i = 0; b = pos 0; j = 0; g = pos 0 }

same_item : {A : Type 0} (o : Option A) (x y : A) → o ≡ Some x → o ≡ Some y → x ≡ y
same_item o x y p q = cc

module _ (version : ℕ) where
  no_mistake_in : (stated : StatedClaim) (derivations : List Derivation) (mistake : BadCertificate) → AllZip (IsProvedCase version) (cases_of stated) derivations
      → IsMistakeIn version stated derivations mistake → ⊥
  no_mistake_in stated derivations (Step which case_no step) proved is =
      let wrong = is.2 in
      let beside = zip_at (IsProvedCase version) (cases_of stated) derivations case_no wrong.rows proved wrong.case_here in
      let same : beside.0 ≡ wrong.derivation = same_item (slice_get derivations case_no) beside.0 wrong.derivation beside.1 wrong.derivation_here in
      let P : Derivation → Type 0 = λ it. IsProvedCase version wrong.rows it in
      no_bad_step (rule_of version) wrong.rows wrong.derivation.steps step no_step (subst P same beside.2) wrong.first
  no_mistake_in stated derivations (Missing which case_no) proved is =
      let long = AllZip-long (IsProvedCase version) (cases_of stated) derivations proved in
      let end = is.1 in
      let below = is.2 in
      omega (arith, long, end, below)
  no_mistake_in stated derivations Extra proved is =
      let long = AllZip-long (IsProvedCase version) (cases_of stated) derivations proved in
      let more = is.0 in
      omega (arith, long, more)
  no_mistake_in stated derivations Entry proved is = is
  no_mistake_in stated derivations (Limit limit) proved is = is
  no_mistake_in stated derivations Memory proved is = is

  no_mistake_at : (stated : StatedClaim) (proved : Proved) (mistake : BadCertificate) → IsProvedBy version stated proved → IsMistakeAt version stated (Some proved) mistake → ⊥
  no_mistake_at stated proved mistake is at = elim at as (λ _. ⊥) [
    | inl other ↦ other.0 is.name
    | inr within ↦ no_mistake_in stated proved.derivations mistake is.cases within.1
  ]

  no_mistake : (all : List StatedClaim) (proved : List Proved) (mistake : BadCertificate) → AllZip (IsProvedBy version) all proved → IsMistake version all proved mistake → ⊥
  no_mistake all proved mistake is at =
      let beside = zip_at (IsProvedBy version) all proved at.number at.here is at.place in
      let P : Option Proved → Type 0 = λ it. IsMistakeAt version at.here it mistake in
      no_mistake_at at.here beside.0 mistake beside.2 (subst P beside.1 at.mistaken)

  nothing_more : (all : List StatedClaim) (proved : List Proved) → AllZip (IsProvedBy version) all proved → HasMore version all proved → ⊥
  nothing_more all proved is left =
      let long = AllZip-long (IsProvedBy version) all proved is in
      let more = left.more in
      omega (arith, long, more)

pub accepted_alone : (p : System) (m : TargetMapping) (certificate : Certificate) (result : Result MappedProgram BadCertificate) → Checks p m certificate result → IsAccepted p m certificate
    → IfErr result (λ fault. fault ≡ Memory)
accepted_alone p m certificate (Ok certified) h is = tt
accepted_alone p m certificate (Err (Step which case_no step)) h is =
    absurd (no_mistake certificate.version (formulas p m) certificate.proved (Step which case_no step) is.certificate_is h.1)
accepted_alone p m certificate (Err (Missing which case_no)) h is =
    absurd (no_mistake certificate.version (formulas p m) certificate.proved (Missing which case_no) is.certificate_is h.1)
accepted_alone p m certificate (Err Extra) h is = elim h as (λ _. Extra ≡ Memory) [
  | inl mistake ↦ absurd (no_mistake certificate.version (formulas p m) certificate.proved Extra is.certificate_is mistake.1)
  | inr more ↦ absurd (nothing_more certificate.version (formulas p m) certificate.proved is.certificate_is more.1)
]
accepted_alone p m certificate (Err Entry) h is = absurd (h is.ready.in_range)
accepted_alone p m certificate (Err (Limit limit)) h is = absurd (h.2 is.ready.few)
accepted_alone p m certificate (Err Memory) h is = refl
