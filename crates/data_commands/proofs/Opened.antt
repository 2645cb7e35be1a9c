-- A command on a program that was read, from what its one step gave.
use Rattle.std.specs.FinMap.{empty}
use Rattle.std.specs.Prelude.{Option, Some, Ok, Err, ℤ}
use Rattle.std.proofs.Common.{ℕ, List, [], refl}
use Rattle.az_ast.specs.Tables.{Tables}
use Rattle.az_desk.specs.Files.{Files}
use Rattle.session_state.proofs.Taking.{stops_first, goes_on}
use Rattle.session_state.specs.Session.{Carried, opened}
use Rattle.session_state.specs.Settings.{Settings, set_parameter}
use Rattle.session_state.specs.Steps.{Step, ◌>>=◌, gives, Takes, TakesAlone}
use Rattle.session_state.specs.declared.session.Loaded.{Loaded}
use Rattle.session_state.specs.declared.stop.Stop.{Stop}
use Rattle.data_commands.specs.Commands.{set_number, load_table}
use Rattle.data_commands.specs.Tables.{read_input}

module _ (loaded : Loaded) (name : List ℕ) (number : ℤ) where
  abbrev numbers : Loaded → Step Settings
  numbers l = set_parameter l.current l.settings name number

  abbrev with_numbers : Loaded → Settings → Step Carried
  with_numbers l settings = gives (record { session = Some (record l { settings = settings; inputs = empty }); text = [] })

  pub number_stops : (stop : Stop) → TakesAlone (set_parameter loaded.current loaded.settings name number) (Err stop) → TakesAlone (set_number (Some loaded) name number) (Err stop)
  number_stops stop h =
      goes_on (λ call. ⊥) (opened (Some loaded)) (λ l. numbers l >>= with_numbers l) loaded (Err stop) refl
      (stops_first (λ call. ⊥) (numbers loaded) (with_numbers loaded) stop h)

  pub number_set : (settings : Settings) → set_parameter loaded.current loaded.settings name number (Ok settings)
      → TakesAlone (set_number (Some loaded) name number) (Ok (record { session = Some (record loaded { settings = settings; inputs = empty }); text = [] }))
  number_set settings h = (loaded, refl, (settings, h, refl))

module _ (files : Option Files) (loaded : Loaded) (name file : List ℕ) where
  abbrev reads : Loaded → Step Tables
  reads l = read_input l.current files l.settings l.inputs name file

  abbrev with_tables : Loaded → Tables → Step Carried
  with_tables l inputs = gives (record { session = Some (record l { inputs = inputs }); text = [] })

  pub table_stops : (stop : Stop) → Takes (read_input loaded.current files loaded.settings loaded.inputs name file) (Err stop) → Takes (load_table files (Some loaded) name file) (Err stop)
  table_stops stop h =
      goes_on (λ call. Unit {0}) (opened (Some loaded)) (λ l. reads l >>= with_tables l) loaded (Err stop) refl
      (stops_first (λ call. Unit {0}) (reads loaded) (with_tables loaded) stop h)

  pub table_read : (inputs : Tables) → read_input loaded.current files loaded.settings loaded.inputs name file (Ok inputs)
      → Takes (load_table files (Some loaded) name file) (Ok (record { session = Some (record loaded { inputs = inputs }); text = [] }))
  table_read inputs h = (loaded, refl, (inputs, h, refl))
