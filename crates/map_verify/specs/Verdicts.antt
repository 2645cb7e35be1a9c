-- What a verification answers: formula by formula and case by case, up to the first case that isn't refuted. Yes has
-- the stated derivation of each case. Want of memory may stand for any answer.
use Rattle.std.specs.Prelude.{◌≡◌, ℕ, ◌+◌, ◌<◌, ◌≤◌, List, length, take, slice_get, Some, Result, Ok, Err, ◌⊎◌}
use Rattle.std.specs.List.{AllZip, sum_by}
use Rattle.az_lin.specs.Affine.{Polyhedron}
use Rattle.az_lin.specs.declared.limit.Limit.TheVariants.{Systems, Steps, Rows as TooManyRows}
use Rattle.az_lin.specs.declared.step.Derivation.{Derivation}
use Rattle.az_ast.specs.System.{System}
use Rattle.cert_text.specs.declared.certificate.Certificate.{Certificate}
use Rattle.cert_text.specs.declared.certificate.Proved.{Proved}
use Rattle.farkas_find.specs.Verdict.{IsRefutedBy}
use Rattle.formula_refute.specs.Fronts.{IsFront}
use Rattle.formula_refute.specs.declared.front.Stop.{Stop}
use Rattle.formula_refute.specs.declared.front.Stop.TheVariants as stop
use Rattle.map_verify.specs.Formulas.{formulas, systems_of, AreInRange, AreFew, AreReady}
use Rattle.map_verify.specs.declared.fault.VerifyFault.{VerifyFault}
use Rattle.map_verify.specs.declared.fault.VerifyFault.TheVariants.{Overflow, Entry, Limit, Memory}
use Rattle.map_verify.specs.declared.verdict.Verdict.{Verdict}
use Rattle.map_verify.specs.declared.verdict.Verdict.TheVariants.{Yes, No}
use Rattle.order_sets.specs.Orders.{StatedClaim}
use Rattle.target_map.specs.Pair.{MappedProgram}
use Rattle.target_map.specs.Settings.{TargetMapping}
use Rattle.target_map.specs.declared.which.Which.{Which}

-- the most steps that the derivations of one verdict may have together
abbrev pub most_steps : ℕ
most_steps = 4194304

abbrev pub steps_in : List Derivation → ℕ
steps_in derivations = sum_by (λ derivation. length derivation.steps) derivations

abbrev pub steps_of : List Proved → ℕ
steps_of proved = sum_by (λ one. steps_in one.derivations) proved

-- the elimination refutes the systems, and these are its derivations
abbrev pub AreRefutedBy : List Polyhedron → List Derivation → Type 0
AreRefutedBy = AllZip (λ (system : Polyhedron) (derivation : Derivation). IsRefutedBy system derivation.steps)

pub record IsRefutedAs (stated : StatedClaim) (proved : Proved) : Type 0 where
  pub name : proved.which ≡ stated.which
  pub cases : AreRefutedBy (systems_of stated) proved.derivations

-- all formulas before this one are refuted
pub record Reaches (all : List StatedClaim) (before : List Proved) (here : StatedClaim) : Type 0 where
  pub place : slice_get all (length before) ≡ Some here
  pub refuted : AllZip IsRefutedAs (take (length before) all) before

-- all cases before this one are refuted, in no more steps than there may be, and this one stops so
pub record StopsAt (all : List StatedClaim) (which : Which) (case_no : ℕ) (end : Stop) : Type 0 where
  pub before : List Proved
  pub here : StatedClaim
  pub derivations : List Derivation
  pub reached : Reaches all before here
  pub front : IsFront (systems_of here) (record { derivations = derivations; stop = end })
  pub name : which ≡ here.which
  pub number : case_no ≡ length derivations
  pub few : steps_of before + steps_in derivations ≤ most_steps

-- some first cases are refuted in more steps than there may be
pub record TakesManySteps (all : List StatedClaim) : Type 0 where
  pub before : List Proved
  pub here : StatedClaim
  pub derivations : List Derivation
  pub reached : Reaches all before here
  pub refuted : AreRefutedBy (take (length derivations) (systems_of here)) derivations
  pub many : most_steps < steps_of before + steps_in derivations

-- all cases are refuted, and the certificate keeps how
pub record IsRefuted (all : List StatedClaim) (certificate : Certificate) : Type 0 where
  pub version : certificate.version ≡ 2
  pub refuted : AllZip IsRefutedAs all certificate.proved
  pub few : steps_of certificate.proved ≤ most_steps

abbrev pub Verifies : System → TargetMapping → Result Verdict VerifyFault → Type 0
Verifies p m (Ok (Yes certified certificate)) =
    AreReady p m × (certified ≡ record { program = p; mapping = m }) × IsRefuted (formulas p m) certificate
Verifies p m (Ok (No which case_no point)) = AreReady p m × StopsAt (formulas p m) which case_no (stop.Point point)
Verifies p m (Err (Overflow which case_no)) = AreReady p m × StopsAt (formulas p m) which case_no stop.Overflow
Verifies p m (Err Entry) = ¬ AreInRange p m
Verifies p m (Err (Limit limit)) =
    ((limit ≡ Systems) × AreInRange p m × (¬ AreFew p m))
    ⊎ ((limit ≡ TooManyRows) × AreReady p m × ((which : Which) × ((case_no : ℕ) × StopsAt (formulas p m) which case_no stop.Rows)))
    ⊎ ((limit ≡ Steps) × AreReady p m × TakesManySteps (formulas p m))
Verifies p m (Err Memory) = Unit {0}
