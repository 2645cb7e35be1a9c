-- A part is set where nothing refuses it, and else refused for that reason.
use Rattle.std.proofs.Common.{◌≡◌, inl, refl, sym, subst}
use Rattle.std.specs.Prelude.{Option, Some, None, option_map, Ok, Err}
use Rattle.az_ast.specs.declared.reason.Reason.{Reason}
use Rattle.session_state.specs.Steps.{TakesAlone, IsStopFor, unless}
use Rattle.session_state.specs.declared.refusal.Refusal.{Refusal}
use Rattle.session_state.specs.declared.refusal.Refusal.TheVariants.{Command}
use Rattle.session_state.specs.declared.stop.Stop.{Stop}
use Rattle.session_state.specs.declared.stop.Stop.TheVariants.{Refused, Fault, Memory}
use Rattle.target_map.specs.Refusals.{IsRefusal}
use Rattle.target_map.specs.Settings.{TargetMapping}
use Rattle.target_map.specs.declared.fault.MapFault.{MapFault}
use Rattle.target_map.specs.declared.fault.MapFault.TheVariants as fault
use Rattle.mapping_commands.specs.Parts.{sets}
use Rattle.mapping_commands.specs.Stops.{stop_of}

module _ (m : TargetMapping) (reason : Option Reason) where
  pub is_set : reason ≡ None → TakesAlone (sets reason m) (Ok m)
  is_set none = subst (λ (r : Option Reason). sets r m (Ok m)) (sym none) (tt, refl, refl)

  pub is_refused : (why : Reason) → reason ≡ Some why → TakesAlone (sets reason m) (Err (Refused (Command why)))
  is_refused why is = subst (λ (r : Option Reason). sets r m (Err (Refused (Command why)))) (sym is) (inl refl)

  pub is_stopped_for : (stop : Stop) → IsStopFor (option_map Command reason) stop → TakesAlone (sets reason m) (Err stop)
  is_stopped_for (Refused refusal) is = inl (subst (λ (o : Option Refusal). unless o (Err (Refused refusal))) (sym is) refl)
  is_stopped_for (Fault call) is = absurd is
  is_stopped_for Memory is = tt

  pub is_stopped : (why : MapFault) → IsRefusal reason why → TakesAlone (sets reason m) (Err (stop_of why))
  is_stopped (fault.Reason why) is = is_refused why is
  is_stopped fault.Memory is = tt
