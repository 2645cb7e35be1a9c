-- A memory map of a variable, once its names are known: set, or refused for an entry.
use Rattle.std.proofs.Common.{◌≡◌, ℕ, List, sym, subst, ◌∙◌}
use Rattle.std.specs.Prelude.{Bool, false, ℤ, map, Option, None, Ok, Err}
use Rattle.az_ast.specs.System.{System}
use Rattle.az_ast.specs.declared.reason.Reason.{Reason}
use Rattle.az_ast.specs.declared.reason.Reason.TheVariants.{Entry}
use Rattle.command_script.specs.Resolved.{meant}
use Rattle.script_grammar.specs.declared.command.MapText.{MapText}
use Rattle.session_state.specs.Steps.{TakesAlone}
use Rattle.session_state.specs.declared.refusal.Refusal.TheVariants.{Command}
use Rattle.session_state.specs.declared.stop.Stop.TheVariants.{Refused}
use Rattle.target_map.specs.Refusals.{IsRefusal, storage_refusal}
use Rattle.target_map.specs.Settings.{TargetMapping, storage_in, with_storage}
use Rattle.target_map.specs.declared.fault.MapFault.{MapFault}
use Rattle.mapping_commands.specs.Names.{variable}
use Rattle.mapping_commands.specs.Numbers.{within}
use Rattle.mapping_commands.specs.Parts.{storage_of, storage_set}
use Rattle.mapping_commands.specs.Shapes.{IsMeantOr, IsMeant}
use Rattle.mapping_commands.specs.Stops.{stop_of}
use Rattle.mapping_commands.specs.declared.maps.Shaped.{Shaped}
use Rattle.mapping_commands.proofs.Alike.{storage_alike}
use Rattle.mapping_commands.proofs.Mapped.{entry_stops, own_stops}

module _ (p : System) (m : TargetMapping) (name space : List ℕ) (text : MapText) (factors : List ℤ) (x : ℕ) (found : variable p name (Ok x)) (shaped : Shaped) (is : IsMeant p.params text shaped) where
  none_of : storage_refusal p m x (storage_in space shaped.map (map within factors)) ≡ None → storage_refusal p m x (storage_of p m space text factors) ≡ None
  none_of none = sym (storage_alike p x shaped.map (meant p.params text) is.width is.rows m space (map within factors)) ∙ none

  pub stored_out : shaped.fits ≡ false → storage_refusal p m x (storage_in space shaped.map (map within factors)) ≡ None → TakesAlone (storage_set p m name space text factors) (Err (Refused (Command Entry)))
  stored_out out none =
      entry_stops p text (λ y. storage_refusal p m y (storage_of p m space text factors)) (λ y. with_storage m y (storage_of p m space text factors)) name x found is.names (none_of none)
      (subst (λ (fits : Bool). IsMeantOr p.params text fits shaped.map) out is.entries)

  pub stored_stops : (why : MapFault) → IsRefusal (storage_refusal p m x (storage_in space shaped.map (map within factors))) why → TakesAlone (storage_set p m name space text factors) (Err (stop_of why))
  stored_stops why refuses =
      own_stops p text (λ y. storage_refusal p m y (storage_of p m space text factors)) (λ y. with_storage m y (storage_of p m space text factors)) name x found is.names why
      (subst (λ (reason : Option Reason). IsRefusal reason why) (storage_alike p x shaped.map (meant p.params text) is.width is.rows m space (map within factors)) refuses)
