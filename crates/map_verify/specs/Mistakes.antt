-- What a check of a certificate answers: formula by formula and case by case, up to the first mistake. Want of memory
-- may stand for any answer.
use Rattle.std.specs.Prelude.{◌≡◌, ◌≢◌, ℕ, ◌<◌, List, [], length, take, slice_get, Option, Some, None, Result, Ok, Err, ◌⊎◌}
use Rattle.std.specs.List.{AllZip}
use Rattle.az_lin.specs.Affine.{Affine}
use Rattle.az_lin.specs.Derivation.{IsFirstBad}
use Rattle.az_lin.specs.declared.limit.Limit.TheVariants.{Systems}
use Rattle.az_lin.specs.declared.step.Derivation.{Derivation}
use Rattle.az_ast.specs.System.{System}
use Rattle.cert_text.specs.declared.certificate.Certificate.{Certificate}
use Rattle.cert_text.specs.declared.certificate.Proved.{Proved}
use Rattle.map_verify.specs.Certificates.{rule_of, IsProvedCase, IsProvedBy, IsCertificate}
use Rattle.map_verify.specs.Formulas.{cases_of, formulas, AreInRange, AreFew, AreReady}
use Rattle.map_verify.specs.declared.fault.BadCertificate.{BadCertificate}
use Rattle.map_verify.specs.declared.fault.BadCertificate.TheVariants.{Step, Missing, Extra, Entry, Limit, Memory}
use Rattle.order_sets.specs.Orders.{StatedClaim}
use Rattle.target_map.specs.Pair.{MappedProgram}
use Rattle.target_map.specs.Settings.{TargetMapping}

module _ (version : ℕ) where
  -- the first so many cases are proved by the first so many derivations
  abbrev pub AreProvedTo : ℕ → StatedClaim → List Derivation → Type 0
  AreProvedTo count stated derivations = AllZip (IsProvedCase version) (take count (cases_of stated)) (take count derivations)

  -- the case has a derivation, and this is its first step that isn't valid
  pub record IsWrongStep (stated : StatedClaim) (derivations : List Derivation) (case_no : ℕ) (step : ℕ) : Type 0 where
    pub rows : List Affine
    pub derivation : Derivation
    pub case_here : slice_get (cases_of stated) case_no ≡ Some rows
    pub derivation_here : slice_get derivations case_no ≡ Some derivation
    pub first : IsFirstBad (rule_of version) rows derivation.steps step

  -- the first mistake among the derivations of a formula
  abbrev pub IsMistakeIn : StatedClaim → List Derivation → BadCertificate → Type 0
  IsMistakeIn stated derivations (Step which case_no step) =
      (which ≡ stated.which) × AreProvedTo case_no stated derivations × IsWrongStep stated derivations case_no step
  IsMistakeIn stated derivations (Missing which case_no) =
      (which ≡ stated.which) × (case_no ≡ length derivations) × (case_no < length (cases_of stated)) × AreProvedTo case_no stated derivations
  IsMistakeIn stated derivations Extra = (length (cases_of stated) < length derivations) × AreProvedTo (length (cases_of stated)) stated derivations
  IsMistakeIn stated derivations Entry = ⊥
  IsMistakeIn stated derivations (Limit limit) = ⊥
  IsMistakeIn stated derivations Memory = ⊥

  -- the first mistake at the place of a formula
  abbrev pub IsMistakeAt : StatedClaim → Option Proved → BadCertificate → Type 0
  IsMistakeAt stated None mistake = mistake ≡ Missing stated.which 0
  IsMistakeAt stated (Some proved) mistake =
      ((proved.which ≢ stated.which) × (mistake ≡ Missing stated.which 0))
      ⊎ ((proved.which ≡ stated.which) × IsMistakeIn stated proved.derivations mistake)

  -- the formulas before are proved, and here is a mistake
  pub record IsMistake (all : List StatedClaim) (proved : List Proved) (mistake : BadCertificate) : Type 0 where
    pub number : ℕ
    pub here : StatedClaim
    pub place : slice_get all number ≡ Some here
    pub before : AllZip (IsProvedBy version) (take number all) (take number proved)
    pub mistaken : IsMistakeAt here (slice_get proved number) mistake

  -- all formulas are proved, and something is left over
  pub record HasMore (all : List StatedClaim) (proved : List Proved) : Type 0 where
    pub more : length all < length proved
    pub before : AllZip (IsProvedBy version) all (take (length all) proved)

abbrev pub HasMistake : System → TargetMapping → Certificate → BadCertificate → Type 0
HasMistake p m certificate mistake = AreReady p m × IsMistake certificate.version (formulas p m) certificate.proved mistake

abbrev pub Checks : System → TargetMapping → Certificate → Result MappedProgram BadCertificate → Type 0
Checks p m certificate (Ok certified) = AreReady p m × (certified ≡ record { program = p; mapping = m }) × IsCertificate p m certificate
Checks p m certificate (Err (Step which case_no step)) = HasMistake p m certificate (Step which case_no step)
Checks p m certificate (Err (Missing which case_no)) = HasMistake p m certificate (Missing which case_no)
Checks p m certificate (Err Extra) =
    HasMistake p m certificate Extra ⊎ (AreReady p m × HasMore certificate.version (formulas p m) certificate.proved)
Checks p m certificate (Err Entry) = ¬ AreInRange p m
Checks p m certificate (Err (Limit limit)) = (limit ≡ Systems) × AreInRange p m × (¬ AreFew p m)
Checks p m certificate (Err Memory) = Unit {0}
