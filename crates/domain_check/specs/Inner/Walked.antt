-- What is known when some places were looked at, or some cases decided.
use Rattle.std.specs.Prelude.{◌≡◌, ◌+◌, ℕ, List, length, All, Bool, true, false, Result, Ok, Err}
use Rattle.az_lin.specs.declared.limit.Limit.TheVariants.{Rows as TooManyRows}
use Rattle.az_ast.specs.Certified.{IsCertified}
use Rattle.az_ast.specs.System.{System}
use Rattle.formula_refute.specs.declared.front.Stop.{Stop}
use Rattle.formula_refute.specs.declared.front.Stop.TheVariants as stop
use Rattle.domain_check.specs.Cases.{Case, Series, all_series}
use Rattle.domain_check.specs.Stops.{IsRefuted, IsFirst, IsRefutedSeries, StopsAt}
use Rattle.domain_check.specs.Promise.{Accepts, Refuses}
use Rattle.domain_check.specs.declared.fault.CheckKind.{CheckKind}
use Rattle.domain_check.specs.declared.fault.CertifyFault.{CertifyFault}
use Rattle.domain_check.specs.declared.fault.CertifyFault.TheVariants.{No, Overflow, Entry, Limit, Memory}

-- whether there are too many cases somewhere
abbrev pub TellsMany : Type 0 → Bool → Type 0
TellsMany few true = few → ⊥
TellsMany few false = few

-- the fault names a case of this kind and number, of the series of this variable, and what stands there
abbrev pub Names : CertifyFault → (CheckKind → ℕ → ℕ → Stop → Type 0) → Type 0
Names (No found) P = P found.kind found.variable found.case_no (stop.Point found.point)
Names (Overflow kind variable number) P = P kind variable number stop.Overflow
Names (Limit limit) P = (limit ≡ TooManyRows) × ((kind : CheckKind) × (variable : ℕ) × (number : ℕ) × P kind variable number stop.Rows)
Names Entry P = ⊥
Names Memory P = Unit {0}

-- the first of the cases has this number
pub record IsFirstFrom (owner first : ℕ) (cases : List Case) (kind : CheckKind) (variable number : ℕ) (stop : Stop) : Type 0 where
  pub place : ℕ
  pub is : IsFirst cases kind place stop
  pub numbered : number ≡ first + place
  pub owned : variable ≡ owner

abbrev pub DecidesCases : ℕ → ℕ → List Case → Result ℕ CertifyFault → Type 0
DecidesCases owner first cases (Ok next) = All IsRefuted cases × (next ≡ first + length cases)
DecidesCases owner first cases (Err fault) = Names fault (IsFirstFrom owner first cases)

abbrev pub DecidesSeries : Series → Result (Unit {0}) CertifyFault → Type 0
DecidesSeries series (Ok _) = IsRefutedSeries series
DecidesSeries series (Err fault) = Names fault (IsFirstFrom series.variable 0 series.cases)

abbrev pub DecidesAll : List Series → Result (Unit {0}) CertifyFault → Type 0
DecidesAll all (Ok _) = All IsRefutedSeries all
DecidesAll all (Err fault) = Names fault (StopsAt all)

abbrev pub Judges : System → Result (Unit {0}) CertifyFault → Type 0
Judges p (Ok _) = Accepts p × IsCertified p
Judges p (Err fault) = Refuses p fault
