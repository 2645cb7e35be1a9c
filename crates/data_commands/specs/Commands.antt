-- The commands of a script that bring data to a program.
use Rattle.std.specs.Prelude.{ℕ, ℤ, List, [], Option, Some}
use Rattle.std.specs.FinMap.{empty}
use Rattle.az_desk.specs.Files.{Files}
use Rattle.session_state.specs.Session.{Session, Carried, opened}
use Rattle.session_state.specs.Settings.{set_parameter}
use Rattle.session_state.specs.Steps.{Step, ◌>>=◌, gives}
use Rattle.data_commands.specs.Tables.{read_input}

-- Tables stand over domains at the numbers that were set, so a new number gives them all up.
abbrev pub set_number : Session → List ℕ → ℤ → Step Carried
set_number session name number =
    opened session >>= (λ loaded.
    set_parameter loaded.current loaded.settings name number >>= (λ settings.
    gives (record { session = Some (record loaded { settings = settings; inputs = empty }); text = [] })))

abbrev pub load_table : Option Files → Session → List ℕ → List ℕ → Step Carried
load_table files session name file =
    opened session >>= (λ loaded.
    read_input loaded.current files loaded.settings loaded.inputs name file >>= (λ inputs.
    gives (record { session = Some (record loaded { inputs = inputs }); text = [] })))
