-- The verification of a mapping, test by test: whether each output and local has both maps, and then what the formulas
-- come to.
use Rattle.std.specs.Prelude.{◌≡◌, Option, Some, None, option_map, Result, Ok, Err}
use Rattle.az_ast.specs.System.{System}
use Rattle.az_ast.specs.declared.reason.Reason.TheVariants as reason
use Rattle.map_verify.specs.Verdicts.{Verifies}
use Rattle.map_verify.specs.declared.fault.VerifyFault.{VerifyFault}
use Rattle.map_verify.specs.declared.fault.VerifyFault.TheVariants as fault
use Rattle.map_verify.specs.declared.verdict.Verdict.{Verdict}
use Rattle.map_verify.specs.declared.verdict.Verdict.TheVariants.{Yes, No}
use Rattle.session_state.specs.Steps.{Step, ◌>>=◌, unless}
use Rattle.session_state.specs.declared.formula_name.FormulaName.{FormulaName}
use Rattle.session_state.specs.declared.formula_name.FormulaName.TheVariants as name
use Rattle.session_state.specs.declared.refusal.Refusal.{Refusal}
use Rattle.session_state.specs.declared.refusal.Refusal.TheVariants.{Command, MappingNo, Overflow, Limited}
use Rattle.session_state.specs.declared.refusal.Spot.TheVariants.{Mapping}
use Rattle.session_state.specs.declared.stop.Stop.TheVariants.{Refused, Fault, Memory}
use Rattle.session_state.specs.declared.verified.Verified.{Verified}
use Rattle.target_map.specs.Refusals.{name_of, unmapped_from}
use Rattle.target_map.specs.Settings.{TargetMapping}
use Rattle.target_map.specs.declared.which.Which.{Which}
use Rattle.target_map.specs.declared.which.Which.TheVariants.{Order, Life, Keep}

-- a formula with the names of its variables
abbrev pub formula_name : System → Which → FormulaName
formula_name p (Order reader read) = name.Order (name_of p reader) read
formula_name p (Life reader read writer) = name.Life (name_of p reader) read (name_of p writer)
formula_name p (Keep output writer) = name.Keep (name_of p output) (name_of p writer)

-- why a mapping is refused: there is no verdict, or the first case that isn't refuted is open; want of memory is no
-- refusal
abbrev pub fault_refusal : System → VerifyFault → Option Refusal
fault_refusal p (fault.Overflow which number) = Some (Overflow (Mapping (formula_name p which) number))
fault_refusal p fault.Entry = Some (Command reason.Entry)
fault_refusal p (fault.Limit limit) = Some (Limited limit)
fault_refusal p fault.Memory = None

abbrev pub verdict_refusal : System → Result Verdict VerifyFault → Option Refusal
verdict_refusal p (Ok (Yes certified certificate)) = None
verdict_refusal p (Ok (No which number point)) = Some (MappingNo (formula_name p which) number point)
verdict_refusal p (Err why) = fault_refusal p why

module _ (p : System) (m : TargetMapping) where
  -- the verdict on a complete mapping
  abbrev pub decided : Step Verified
  decided (Ok verified) = Verifies p m (Ok (Yes verified.certified verified.certificate))
  decided (Err (Refused refusal)) = (verdict : Result Verdict VerifyFault) × Verifies p m verdict × (verdict_refusal p verdict ≡ Some refusal)
  decided (Err (Fault call)) = ⊥
  decided (Err Memory) = ⊥

  abbrev pub verification : Step Verified
  verification = unless (option_map Command (unmapped_from m 0 p.variables)) >>= (λ _. decided)
