-- A formula whose cases have valid derivations is false at all whole points.
use Rattle.std.proofs.Common.{◌≡◌, ℕ, zero, suc, List, [], ◌∷◌, map, ℤ, refl, sym, subst, inl, inr, All}
use Rattle.std.specs.List.{AllZip}
use Rattle.std.proofs.lemmas.List.Elements.{All-nil, All-cons, All-from_recursion}
use Rattle.az_lin.specs.Affine.{Affine, IsAtLeastZero}
use Rattle.az_lin.specs.Derivation.{IsStep, IsDerivation}
use Rattle.az_lin.specs.declared.step.Derivation.{Derivation}
use Rattle.az_lin.specs.declared.step.Step.{Step}
use Rattle.cert_text.specs.declared.certificate.Certificate.{Certificate}
use Rattle.cert_text.specs.declared.certificate.Proved.{Proved}
use Rattle.farkas_check.proofs.Soundness.{refutes, derivation_from_exact}
use Rattle.formula_refute.specs.Cases.{cases, system_of}
use Rattle.formula_refute.specs.Claims.{Claim, IsTrueAt}
use Rattle.formula_refute.proofs.CaseTruth.{SomeHolds, case_to}
use Rattle.life_sets.specs.Laws.{IsFalse}
use Rattle.order_sets.specs.Orders.{StatedClaim}
use Rattle.map_verify.specs.Certificates.{rule_of, IsProvedCase, IsProvedBy}
use Rattle.map_verify.specs.Formulas.{cases_of}
use Rattle.map_verify.specs.Verdicts.{AreRefutedBy, IsRefutedAs, IsRefuted}

-- the rule of each version is at least that of version 2
rule_valid : (version : ℕ) (rows : List Affine) (steps : List Step) → IsDerivation (rule_of version) rows steps → IsDerivation IsStep rows steps
rule_valid zero rows steps valid = valid
rule_valid (suc zero) rows steps valid = derivation_from_exact rows steps valid
rule_valid (suc (suc n)) rows steps valid = valid

no_case_holds : (version : ℕ) (z : List ℤ) (all : List (List Affine)) (derivations : List Derivation) → AllZip (IsProvedCase version) all derivations → SomeHolds z all → ⊥
no_case_holds version z [] derivations proved some = some
no_case_holds version z (rows ∷ all) [] proved some = proved
no_case_holds version z (rows ∷ all) (d ∷ ds) proved some = elim some as (λ _. ⊥) [
  | inl here ↦ refutes rows d.steps z (rule_valid version rows d.steps proved.0) (All-from_recursion (IsAtLeastZero z) rows here)
  | inr rest ↦ no_case_holds version z all ds proved.1 rest
]

formula_false : (version : ℕ) (stated : StatedClaim) (proved : Proved) → IsProvedBy version stated proved → IsFalse stated
formula_false version stated proved is z width true = no_case_holds version z (cases stated.claim) proved.derivations is.cases (case_to z stated.claim true)

pub each_false : (version : ℕ) (all : List StatedClaim) (proved : List Proved) → AllZip (IsProvedBy version) all proved → All IsFalse all
each_false version [] proved is = All-nil IsFalse
each_false version (stated ∷ all) [] is = absurd is
each_false version (stated ∷ all) (one ∷ proved) is = All-cons IsFalse stated all (formula_false version stated one is.0) (each_false version all proved is.1)

-- what the elimination refutes has a proof of version 2
cases_proved : (width : ℕ) (all : List (List Affine)) (derivations : List Derivation) → AreRefutedBy (map (system_of width) all) derivations → AllZip (IsProvedCase 2) all derivations
cases_proved width [] [] refuted = tt
cases_proved width [] (d ∷ ds) refuted = absurd refuted
cases_proved width (rows ∷ all) [] refuted = absurd refuted
cases_proved width (rows ∷ all) (d ∷ ds) refuted = (refuted.0.valid, cases_proved width all ds refuted.1)

formulas_proved : (all : List StatedClaim) (proved : List Proved) → AllZip IsRefutedAs all proved → AllZip (IsProvedBy 2) all proved
formulas_proved [] [] refuted = tt
formulas_proved [] (one ∷ proved) refuted = absurd refuted
formulas_proved (stated ∷ all) [] refuted = absurd refuted
formulas_proved (stated ∷ all) (one ∷ proved) refuted =
    (record { name = refuted.0.name; cases = cases_proved stated.width (cases_of stated) one.derivations refuted.0.cases }, formulas_proved all proved refuted.1)

pub refuted_proved : (all : List StatedClaim) (certificate : Certificate) → IsRefuted all certificate → AllZip (IsProvedBy certificate.version) all certificate.proved
refuted_proved all certificate is =
    let P : ℕ → Type 0 = λ version. AllZip (IsProvedBy version) all certificate.proved in
    subst P (sym is.version) (formulas_proved all certificate.proved is.refuted)
