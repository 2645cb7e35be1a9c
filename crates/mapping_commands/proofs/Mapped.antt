-- A part with a map, for a variable: set, or refused for the map's names, for a reason of its own, or for an entry.
use Rattle.std.proofs.Common.{◌≡◌, ℕ, List, refl}
use Rattle.std.specs.Prelude.{Option, Some, None, option_map, Ok, Err}
use Rattle.std.specs.Option.{option_or}
use Rattle.az_ast.specs.System.{System}
use Rattle.az_ast.specs.declared.reason.Reason.{Reason}
use Rattle.az_ast.specs.declared.reason.Reason.TheVariants.{Entry}
use Rattle.script_grammar.specs.declared.command.MapText.{MapText}
use Rattle.session_state.proofs.Taking.{goes_on}
use Rattle.session_state.specs.Steps.{Step, ◌>>=◌, TakesAlone, IsStopFor}
use Rattle.session_state.specs.declared.refusal.Refusal.{Refusal}
use Rattle.session_state.specs.declared.refusal.Refusal.TheVariants.{Command}
use Rattle.session_state.specs.declared.stop.Stop.{Stop}
use Rattle.session_state.specs.declared.stop.Stop.TheVariants.{Refused, Fault, Memory}
use Rattle.target_map.specs.Refusals.{IsRefusal}
use Rattle.target_map.specs.Settings.{TargetMapping}
use Rattle.target_map.specs.declared.fault.MapFault.{MapFault}
use Rattle.target_map.specs.declared.fault.MapFault.TheVariants as fault
use Rattle.mapping_commands.specs.Maps.{name_reason, entry_reason, map_reason}
use Rattle.mapping_commands.specs.Names.{variable}
use Rattle.mapping_commands.specs.Parts.{sets}
use Rattle.mapping_commands.specs.Stops.{stop_of}
use Rattle.mapping_commands.proofs.Refusing.{is_set, is_refused, is_stopped_for, is_stopped}

-- a reason that comes first
first_refuses : (first rest : Option Reason) (refusal : Refusal) → option_map Command first ≡ Some refusal → option_map Command (option_or first rest) ≡ Some refusal
first_refuses None rest refusal is = cc
first_refuses (Some why) rest refusal is = is

first_stops : (first rest : Option Reason) (stop : Stop) → IsStopFor (option_map Command first) stop → IsStopFor (option_map Command (option_or first rest)) stop
first_stops first rest (Refused refusal) is = first_refuses first rest refusal is
first_stops first rest (Fault call) is = is
first_stops first rest Memory is = tt

module _ (p : System) (text : MapText) (own : ℕ → Option Reason) (made : ℕ → TargetMapping) (name : List ℕ) where
  abbrev part_for : ℕ → Step TargetMapping
  part_for x = sets (map_reason p.params text (own x)) (made x)

  module _ (x : ℕ) (found : variable p name (Ok x)) where
    pub names_stop : (stop : Stop) → IsStopFor (option_map Command (name_reason p.params text)) stop → TakesAlone (variable p name >>= part_for) (Err stop)
    names_stop stop is =
        goes_on (λ call. ⊥) (variable p name) part_for x (Err stop) found
        (is_stopped_for (made x) (map_reason p.params text (own x)) stop (first_stops (name_reason p.params text) (option_or (own x) (entry_reason p.params text)) stop is))

    module _ (names : name_reason p.params text ≡ None) where
      own_why : (why : MapFault) → IsRefusal (own x) why → IsRefusal (map_reason p.params text (own x)) why
      own_why (fault.Reason why) is = rw (names, is) refl
      own_why fault.Memory is = tt

      pub own_stops : (why : MapFault) → IsRefusal (own x) why → TakesAlone (variable p name >>= part_for) (Err (stop_of why))
      own_stops why is = goes_on (λ call. ⊥) (variable p name) part_for x (Err (stop_of why)) found (is_stopped (made x) (map_reason p.params text (own x)) why (own_why why is))

      pub entry_stops : own x ≡ None → entry_reason p.params text ≡ Some Entry → TakesAlone (variable p name >>= part_for) (Err (Refused (Command Entry)))
      entry_stops none out =
          goes_on (λ call. ⊥) (variable p name) part_for x (Err (Refused (Command Entry))) found
          (is_refused (made x) (map_reason p.params text (own x)) Entry (rw (names, none, out) refl))

      pub is_taken : own x ≡ None → entry_reason p.params text ≡ None → TakesAlone (variable p name >>= part_for) (Ok (made x))
      is_taken none fits =
          goes_on (λ call. ⊥) (variable p name) part_for x (Ok (made x)) found
          (is_set (made x) (map_reason p.params text (own x)) (rw (names, none, fits) refl))
