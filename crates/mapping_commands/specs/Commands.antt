-- The commands of scripts that set the parts of the mapping. Each leaves the rest of the mapping and of the session as it
-- was, but that other kinds take the space-time maps away, and that what was verified is given up.
use Rattle.std.specs.Prelude.{ℕ, ℤ, List, [], Some}
use Rattle.script_grammar.specs.declared.command.KindText.{KindText}
use Rattle.script_grammar.specs.declared.command.MapText.{MapText}
use Rattle.session_state.specs.Session.{Session, Carried, mapped, opened}
use Rattle.session_state.specs.Steps.{Step, ◌>>=◌, gives}
use Rattle.session_state.specs.declared.session.Loaded.{Loaded}
use Rattle.target_map.specs.Settings.{TargetMapping}
use Rattle.mapping_commands.specs.Parts.{kinds_set, time_set, storage_set, order_set}

abbrev pub leaves : Loaded → TargetMapping → Step Carried
leaves loaded m = gives (record { session = Some (mapped loaded m); text = [] })

abbrev pub setting : Session → (Loaded → Step TargetMapping) → Step Carried
setting session part = opened session >>= (λ loaded. part loaded >>= leaves loaded)

abbrev pub set_dimension_kinds : Session → List KindText → Step Carried
set_dimension_kinds session kinds = setting session (λ loaded. kinds_set loaded.mapping kinds)

abbrev pub set_space_time_map : Session → List ℕ → MapText → Step Carried
set_space_time_map session name map = setting session (λ loaded. time_set loaded.current loaded.mapping name map)

abbrev pub set_memory_map : Session → List ℕ → List ℕ → MapText → List ℤ → Step Carried
set_memory_map session name space map factors = setting session (λ loaded. storage_set loaded.current loaded.mapping name space map factors)

abbrev pub set_statement_order : Session → List (List ℕ) → Step Carried
set_statement_order session names = setting session (λ loaded. order_set loaded.current loaded.mapping names)
