-- What a certificate of a mapping is: for each of its formulas in order, and for each case of the formula in order, a
-- derivation that is valid by the rule of the certificate's version.
use Rattle.std.specs.Prelude.{◌≡◌, ℕ, zero, suc, List}
use Rattle.std.specs.List.{AllZip}
use Rattle.az_lin.specs.Affine.{Affine}
use Rattle.az_lin.specs.Derivation.{IsStep, IsExactStep, IsDerivation}
use Rattle.az_lin.specs.declared.step.Derivation.{Derivation}
use Rattle.az_lin.specs.declared.step.Step.{Step}
use Rattle.az_ast.specs.System.{System}
use Rattle.cert_text.specs.declared.certificate.Certificate.{Certificate}
use Rattle.cert_text.specs.declared.certificate.Proved.{Proved}
use Rattle.map_verify.specs.Formulas.{cases_of, formulas}
use Rattle.order_sets.specs.Orders.{StatedClaim}
use Rattle.target_map.specs.Settings.{TargetMapping}

-- in version 1 no step rounds
abbrev pub rule_of : ℕ → List Affine → Step → Type 0
rule_of zero = IsStep
rule_of (suc zero) = IsExactStep
rule_of (suc (suc n)) = IsStep

abbrev pub IsProvedCase : ℕ → List Affine → Derivation → Type 0
IsProvedCase version rows derivation = IsDerivation (rule_of version) rows derivation.steps

pub record IsProvedBy (version : ℕ) (stated : StatedClaim) (proved : Proved) : Type 0 where
  pub name : proved.which ≡ stated.which
  pub cases : AllZip (IsProvedCase version) (cases_of stated) proved.derivations

abbrev pub IsCertificate : System → TargetMapping → Certificate → Type 0
IsCertificate p m certificate = AllZip (IsProvedBy certificate.version) (formulas p m) certificate.proved
