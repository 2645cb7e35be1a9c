-- The commands that read, check and show a program.
use Rattle.std.specs.Prelude.{ℕ, List, [], Option, Some}
use Rattle.alphabets_show.specs.Shown.{shown}
use Rattle.az_ast.specs.System.{System}
use Rattle.az_desk.specs.Files.{Files}
use Rattle.session_state.specs.Session.{Session, Carried, fresh, opened}
use Rattle.session_state.specs.Steps.{Step, ◌>>=◌, gives}
use Rattle.program_commands.specs.Programs.{read_alphabets}

-- Whatever the session was, it has the program of the file, with nothing set or read for it.
abbrev pub load_program : Option Files → List ℕ → Step Carried
load_program files file = read_alphabets files file >>= (λ p. gives (record { session = Some (fresh p); text = [] }))

-- A program of a session is certified, so nothing is left to be checked.
abbrev pub check_program : Session → Step Carried
check_program session = opened session >>= (λ loaded. gives (record { session = session; text = [] }))

abbrev pub show_program : Session → Step Carried
show_program session = opened session >>= (λ loaded. gives (record { session = session; text = shown loaded.current }))
