-- What stops a verification, from the answers of the calls.
use Rattle.std.proofs.Common.{◌≡◌, subst}
use Rattle.std.specs.Prelude.{option_map, Result, Ok, Err}
use Rattle.az_ast.specs.System.{System}
use Rattle.map_verify.specs.Verdicts.{Verifies}
use Rattle.map_verify.specs.declared.fault.VerifyFault.{VerifyFault}
use Rattle.map_verify.specs.declared.verdict.Verdict.{Verdict}
use Rattle.session_state.proofs.Taking.{stops_first, goes_on}
use Rattle.session_state.specs.Steps.{Step, TakesAlone, IsStopFor, unless}
use Rattle.session_state.specs.declared.refusal.Refusal.TheVariants.{Command}
use Rattle.session_state.specs.declared.stop.Stop.{Stop}
use Rattle.session_state.specs.declared.stop.Stop.TheVariants.{Refused, Fault, Memory}
use Rattle.session_state.specs.declared.verified.Verified.{Verified}
use Rattle.target_map.specs.Refusals.{unmapped_from}
use Rattle.target_map.specs.Settings.{TargetMapping}
use Rattle.verify_commands.specs.Verification.{verdict_refusal, decided, verification}

module _ (p : System) (m : TargetMapping) where
  refused : (verdict : Result Verdict VerifyFault) (stop : Stop) → Verifies p m verdict → IsStopFor (verdict_refusal p verdict) stop → TakesAlone (decided p m) (Err stop)
  refused verdict (Refused refusal) h is = (verdict, h, is)
  refused verdict (Fault call) h is = absurd is
  refused verdict Memory h is = tt

  -- the names are those of an equal program
  pub refused_by : (q : System) (verdict : Result Verdict VerifyFault) (stop : Stop) → q ≡ p → Verifies p m verdict → IsStopFor (verdict_refusal q verdict) stop → TakesAlone (decided p m) (Err stop)
  refused_by q verdict stop same h is = refused verdict stop h (subst (λ (r : System). IsStopFor (verdict_refusal r verdict) stop) same is)

  abbrev pub completes : Step (Unit {0})
  completes = unless (option_map Command (unmapped_from m 0 p.variables))

  pub incomplete : (stop : Stop) → TakesAlone completes (Err stop) → TakesAlone (verification p m) (Err stop)
  incomplete stop h = stops_first (λ call. ⊥) completes (λ _. decided p m) stop h

  pub completed_decided : (result : Result Verified Stop) → TakesAlone completes (Ok tt) → TakesAlone (decided p m) result → TakesAlone (verification p m) result
  completed_decided result h more = goes_on (λ call. ⊥) completes (λ _. decided p m) tt result h more
