-- The promise of the crate: Yes and an accepted certificate give a mapping that is certified for all parameters; the
-- certificate of a Yes is one; No has a point that is open for the case that it names. And there is one answer alone.
use Rattle.std.specs.Prelude.{◌≡◌, ◌≢◌, ℕ, List, slice_get, Some, IsSomeAnd, Result, Ok, Err}
use Rattle.std.specs.List.{list_any}
use Rattle.az_lin.specs.declared.step.RatPoint.{RatPoint}
use Rattle.az_ast.specs.System.{System}
use Rattle.cert_text.specs.declared.certificate.Certificate.{Certificate}
use Rattle.formula_refute.specs.Fronts.{open_at}
use Rattle.map_verify.specs.Certificates.{IsCertificate}
use Rattle.map_verify.specs.Formulas.{formulas, systems_of, AreReady}
use Rattle.map_verify.specs.Verdicts.{Verifies}
use Rattle.map_verify.specs.declared.fault.VerifyFault.{VerifyFault}
use Rattle.map_verify.specs.declared.fault.VerifyFault.TheVariants.{Memory}
use Rattle.map_verify.specs.declared.verdict.Verdict.{Verdict}
use Rattle.map_verify.specs.declared.verdict.Verdict.TheVariants.{Yes, No}
use Rattle.order_sets.specs.Orders.{StatedClaim}
use Rattle.target_map.specs.Promise.{IsCertifiedMap}
use Rattle.target_map.specs.Settings.{TargetMapping}
use Rattle.target_map.specs.declared.which.Which.{Which}

-- what a check of the certificate asks for
pub record IsAccepted (p : System) (m : TargetMapping) (certificate : Certificate) : Type 0 where
  pub ready : AreReady p m
  pub certificate_is : IsCertificate p m certificate

abbrev pub IsCertifiedIfYes : System → TargetMapping → Verdict → Type 0
IsCertifiedIfYes p m (Yes certified certificate) = IsCertifiedMap p m × IsAccepted p m certificate
IsCertifiedIfYes p m (No which case_no point) = Unit {0}

-- the point is open for a case with this number of a formula of this name
pub record IsOpenCase (all : List StatedClaim) (which : Which) (case_no : ℕ) (point : RatPoint) : Type 0 where
  pub number : ℕ
  pub stated : StatedClaim
  pub place : slice_get all number ≡ Some stated
  pub name : which ≡ stated.which
  pub is_open : IsSomeAnd (slice_get (systems_of stated) case_no) (λ system. open_at system point)

abbrev pub IsOpenIfNo : System → TargetMapping → Verdict → Type 0
IsOpenIfNo p m (Yes certified certificate) = Unit {0}
IsOpenIfNo p m (No which case_no point) = IsOpenCase (formulas p m) which case_no point

-- there is no other answer, but for want of memory
abbrev pub IsOnlyAnswer : System → TargetMapping → Result Verdict VerifyFault → Type 0
IsOnlyAnswer p m result = (other : Result Verdict VerifyFault) → Verifies p m other → other ≢ Err Memory → result ≢ Err Memory → other ≡ result
