-- A script is read from a file: first its text, then the commands that it says, and then whether each is carried out
-- today. The first that isn't is answered as a text that can't go on at its first word.
use Rattle.std.specs.Prelude.{◌≡◌, ℕ, List, ◌∷◌, ◌++◌, length, map, Option, Some, None, Ok, Err}
use Rattle.az_desk.specs.Files.{Files}
use Rattle.script_files.specs.Commands.{commands_in}
use Rattle.script_files.specs.Places.{IsSyntaxRefusal}
use Rattle.script_grammar.specs.declared.command.Command.{Command}
use Rattle.session_state.specs.Steps.{Step, ◌>>=◌}
use Rattle.session_state.specs.Texts.{text_of}
use Rattle.session_state.specs.declared.stop.Stop.TheVariants.{Refused, Fault, Memory}
use Rattle.alphaz_cli.specs.Tasks.{task_of}
use Rattle.alphaz_cli.specs.declared.task.Task.{Task}

-- The first command that isn't carried out today, with the tasks of those before it.
pub record FirstOpen (commands : List Command) : Type 0 where
  pub before : List Command
  pub command : Command
  pub after : List Command
  pub done : List Task
  pub order : commands ≡ before ++ command ∷ after
  pub known : map task_of before ≡ map Some done
  pub open_here : task_of command ≡ None

abbrev pub tasks_in : List ℕ → List ℕ → List Command → Step (List Task)
tasks_in file text commands (Ok tasks) = map task_of commands ≡ map Some tasks
tasks_in file text commands (Err (Refused refusal)) = (first : FirstOpen commands) × IsSyntaxRefusal file text (length first.before) refusal
tasks_in file text commands (Err (Fault call)) = ⊥
tasks_in file text commands (Err Memory) = ⊥

abbrev pub script : Option Files → List ℕ → Step (List Task)
script files file = text_of files file >>= (λ text. commands_in file text >>= tasks_in file text)
