-- What the check of one formula answers, of one place, and of all formulas.
use Rattle.std.specs.Prelude.{◌≡◌, ℕ, List, Option, Some, Result, Ok, Err, ◌⊎◌}
use Rattle.std.specs.List.{AllZip}
use Rattle.az_lin.specs.declared.step.Derivation.{Derivation}
use Rattle.cert_text.specs.declared.certificate.Proved.{Proved}
use Rattle.map_verify.specs.Certificates.{IsProvedCase, IsProvedBy}
use Rattle.map_verify.specs.Formulas.{cases_of}
use Rattle.map_verify.specs.Mistakes.{IsMistakeIn, IsMistakeAt, IsMistake, HasMore}
use Rattle.map_verify.specs.declared.fault.BadCertificate.{BadCertificate}
use Rattle.map_verify.specs.declared.fault.BadCertificate.TheVariants.{Step, Missing, Extra, Entry, Limit, Memory}
use Rattle.order_sets.specs.Orders.{StatedClaim}

-- a mistake of the kind that is meant, or want of memory
abbrev pub Mistakes : (BadCertificate → Type 0) → BadCertificate → Type 0
Mistakes IsWrong (Step which case_no step) = IsWrong (Step which case_no step)
Mistakes IsWrong (Missing which case_no) = IsWrong (Missing which case_no)
Mistakes IsWrong Extra = IsWrong Extra
Mistakes IsWrong Entry = ⊥
Mistakes IsWrong (Limit limit) = ⊥
Mistakes IsWrong Memory = Unit {0}

module _ (version : ℕ) where
  abbrev pub ChecksFormula : StatedClaim → List Derivation → Result (Unit {0}) BadCertificate → Type 0
  ChecksFormula stated derivations (Ok _) = AllZip (IsProvedCase version) (cases_of stated) derivations
  ChecksFormula stated derivations (Err mistake) = Mistakes (IsMistakeIn version stated derivations) mistake

  abbrev pub ChecksPlace : StatedClaim → Option Proved → Result (Unit {0}) BadCertificate → Type 0
  ChecksPlace stated place (Ok _) = (proved : Proved) × (place ≡ Some proved) × IsProvedBy version stated proved
  ChecksPlace stated place (Err mistake) = Mistakes (IsMistakeAt version stated place) mistake

  abbrev pub ChecksAll : List StatedClaim → List Proved → Result (Unit {0}) BadCertificate → Type 0
  ChecksAll all proved (Ok _) = AllZip (IsProvedBy version) all proved
  ChecksAll all proved (Err mistake) =
      Mistakes (λ wrong. IsMistake version all proved wrong ⊎ ((wrong ≡ Extra) × HasMore version all proved)) mistake
