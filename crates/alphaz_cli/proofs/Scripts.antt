-- A script's tasks, from the answers of the calls.
use Rattle.std.proofs.Common.{◌≡◌, ℕ, List, [], ◌∷◌, ◌++◌, length, sym, ap, subst, ◌∙◌}
use Rattle.std.proofs.lemmas.List.{map-append, length-map}
use Rattle.std.specs.Prelude.{Option, Some, None, map, Err}
use Rattle.script_files.specs.Places.{IsSyntaxStop}
use Rattle.script_grammar.specs.declared.command.Command.{Command}
use Rattle.session_state.specs.Steps.{TakesAlone}
use Rattle.session_state.specs.declared.stop.Stop.{Stop}
use Rattle.session_state.specs.declared.stop.Stop.TheVariants.{Refused, Fault, Memory}
use Rattle.alphaz_cli.specs.Scripts.{tasks_in}
use Rattle.alphaz_cli.specs.Tasks.{task_of}
use Rattle.alphaz_cli.specs.declared.task.Task.{Task}

-- one command more behind those whose tasks are known
module _ (before : List Command) (command : Command) (tasks : List Task) (so_far : map task_of before ≡ map Some tasks) where
  pub known_more : (task : Task) → task_of command ≡ Some task → map task_of (before ++ command ∷ []) ≡ map Some (tasks ++ task ∷ [])
  known_more task is =
      map-append task_of before (command ∷ [])
      ∙ (ap (λ (ts : List (Option Task)). ts ++ task_of command ∷ []) so_far
      ∙ (ap (λ (o : Option Task). map Some tasks ++ o ∷ []) is
      ∙ sym (map-append (λ (t : Task). Some t) tasks (task ∷ []))))

  as_many : length tasks ≡ length before
  as_many = sym (length-map tasks (λ (t : Task). Some t)) ∙ (ap length (sym so_far) ∙ length-map before task_of)

  -- the run stops at it
  pub stops_open : (file text : List ℕ) (after commands : List Command) (stop : Stop) → commands ≡ before ++ command ∷ after → task_of command ≡ None
      → IsSyntaxStop file text (length tasks) stop → TakesAlone (tasks_in file text commands) (Err stop)
  stops_open file text after commands (Refused refusal) order none is = (
    record { before = before; command = command; after = after; done = tasks; order = order; known = so_far; open_here = none },
    subst (λ n. IsSyntaxStop file text n (Refused refusal)) as_many is,
  )
  stops_open file text after commands (Fault call) order none is = absurd is
  stops_open file text after commands Memory order none is = tt
