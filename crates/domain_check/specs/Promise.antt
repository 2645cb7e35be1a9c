-- The promise of the crate: a program is certified, or refused with the first cause in order. Entries out of range
-- come first, over all checks; then too many cases of one kind at one place, over all; then the first case in order
-- that isn't refuted.
use Rattle.std.specs.Prelude.{◌≡◌, ℕ, All, Result, Ok, Err, ◌⊎◌}
use Rattle.az_lin.specs.declared.limit.Limit.TheVariants.{Systems, Rows as TooManyRows}
use Rattle.az_ast.specs.Certified.{IsCertified}
use Rattle.az_ast.specs.System.{System}
use Rattle.formula_refute.specs.declared.front.Stop.TheVariants as stop
use Rattle.domain_check.specs.Cases.{all_series}
use Rattle.domain_check.specs.Stops.{all_places, FitsAt, AreFewAt, IsRefutedSeries, IsDecidable, StopsAt}
use Rattle.domain_check.specs.declared.fault.CheckKind.{CheckKind}
use Rattle.domain_check.specs.declared.fault.CertifyFault.{CertifyFault}
use Rattle.domain_check.specs.declared.fault.CertifyFault.TheVariants.{No, Overflow, Entry, Limit, Memory}

abbrev pub Refuses : System → CertifyFault → Type 0
Refuses p Entry = ¬ All (FitsAt p) (all_places p)
Refuses p (Limit limit) =
    ((limit ≡ Systems) × All (FitsAt p) (all_places p) × (¬ All (AreFewAt p) (all_places p)))
    ⊎ ((limit ≡ TooManyRows) × IsDecidable p × ((kind : CheckKind) × (variable : ℕ) × (number : ℕ) × StopsAt (all_series p) kind variable number stop.Rows))
Refuses p (Overflow kind variable number) = IsDecidable p × StopsAt (all_series p) kind variable number stop.Overflow
Refuses p (No found) = IsDecidable p × StopsAt (all_series p) found.kind found.variable found.case_no (stop.Point found.point)
Refuses p Memory = Unit {0}

pub record Accepts (p : System) : Type 0 where
  pub decidable : IsDecidable p
  pub refuted : All IsRefutedSeries (all_series p)

abbrev pub Certifies : System → Result System (System × CertifyFault) → Type 0
Certifies p (Ok checked) = (checked ≡ p) × Accepts p × IsCertified p
Certifies p (Err refused) = (refused.0 ≡ p) × Refuses p refused.1
