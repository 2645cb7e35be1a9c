-- A command that sets a part of the mapping of a program that is there.
use Rattle.std.proofs.Common.{◌≡◌, ℕ, List, refl, ap₂}
use Rattle.std.specs.Prelude.{[], Some, Result, Ok, Err}
use Rattle.session_state.proofs.Taking.{stops_first, goes_on}
use Rattle.session_state.specs.Session.{Carried, mapped, opened}
use Rattle.session_state.specs.Steps.{Step, ◌>>=◌, TakesAlone}
use Rattle.session_state.specs.declared.session.Loaded.{Loaded}
use Rattle.session_state.specs.declared.stop.Stop.{Stop}
use Rattle.target_map.specs.Settings.{TargetMapping}
use Rattle.mapping_commands.specs.Commands.{leaves, setting}

module _ (loaded : Loaded) (part : Loaded → Step TargetMapping) where
  pub part_stops : (stop : Stop) → TakesAlone (part loaded) (Err stop) → TakesAlone (setting (Some loaded) part) (Err stop)
  part_stops stop h =
      goes_on (λ call. ⊥) (opened (Some loaded)) (λ l. part l >>= leaves l) loaded (Err stop) refl
      (stops_first (λ call. ⊥) (part loaded) (leaves loaded) stop h)

  abbrev carried_out : Loaded → List ℕ → Result Carried Stop
  carried_out now text = Ok (record { session = Some now; text = text })

  pub part_left : (m : TargetMapping) (now : Loaded) (text : List ℕ) → TakesAlone (part loaded) (Ok m) → now ≡ mapped loaded m → text ≡ []
      → TakesAlone (setting (Some loaded) part) (Ok (record { session = Some now; text = text }))
  part_left m now text h left none = (loaded, refl, (m, h, ap₂ carried_out left none))
