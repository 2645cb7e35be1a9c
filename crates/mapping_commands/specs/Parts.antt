-- The parts of a mapping, each set in the place of what it was before.
use Rattle.std.specs.Prelude.{ℕ, ℤ, List, map, Option, option_map}
use Rattle.az_ast.specs.System.{System}
use Rattle.az_ast.specs.declared.reason.Reason.{Reason}
use Rattle.command_script.specs.Resolved.{meant}
use Rattle.script_grammar.specs.declared.command.KindText.{KindText}
use Rattle.script_grammar.specs.declared.command.MapText.{MapText}
use Rattle.session_state.specs.Steps.{Step, ◌>>=◌, gives, unless}
use Rattle.session_state.specs.declared.refusal.Refusal.TheVariants.{Command}
use Rattle.target_map.specs.Refusals.{kinds_refusal, time_refusal, storage_refusal, order_refusal}
use Rattle.target_map.specs.Settings.{TargetMapping, storage_in, with_kinds, with_time, with_storage, with_statements}
use Rattle.target_map.specs.declared.storage.Storage.{Storage}
use Rattle.mapping_commands.specs.Maps.{map_reason}
use Rattle.mapping_commands.specs.Names.{variable, variables}
use Rattle.mapping_commands.specs.Numbers.{within, kind_of}

-- what nothing refuses is set
abbrev pub sets : Option Reason → TargetMapping → Step TargetMapping
sets reason m = unless (option_map Command reason) >>= (λ _. gives m)

abbrev pub kinds_set : TargetMapping → List KindText → Step TargetMapping
kinds_set m kinds = sets (kinds_refusal (map kind_of kinds)) (with_kinds m (map kind_of kinds))

module _ (p : System) (m : TargetMapping) where
  abbrev pub time_set_for : MapText → ℕ → Step TargetMapping
  time_set_for text x = sets (map_reason p.params text (time_refusal p m.kinds x (meant p.params text))) (with_time m x (meant p.params text))

  abbrev pub time_set : List ℕ → MapText → Step TargetMapping
  time_set name text = variable p name >>= time_set_for text

  abbrev pub storage_of : List ℕ → MapText → List ℤ → Storage
  storage_of space text factors = storage_in space (meant p.params text) (map within factors)

  abbrev pub storage_set_for : List ℕ → MapText → List ℤ → ℕ → Step TargetMapping
  storage_set_for space text factors x = sets (map_reason p.params text (storage_refusal p m x (storage_of space text factors))) (with_storage m x (storage_of space text factors))

  abbrev pub storage_set : List ℕ → List ℕ → MapText → List ℤ → Step TargetMapping
  storage_set name space text factors = variable p name >>= storage_set_for space text factors

  abbrev pub order_set_for : List ℕ → Step TargetMapping
  order_set_for numbers = sets (order_refusal p numbers) (with_statements m numbers)

  abbrev pub order_set : List (List ℕ) → Step TargetMapping
  order_set names = variables p names >>= order_set_for
