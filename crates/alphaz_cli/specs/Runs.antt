-- How a run of the program ends, what it has said then, and why.
use Rattle.std.specs.Prelude.{◌≡◌, ◌≤◌, ◌⊎◌, ℕ, List, All, Option, None, Ok, Err}
use Rattle.az_desk.specs.Desk.{Seen}
use Rattle.az_desk.specs.Files.{Files}
use Rattle.command_listing.specs.Listing.{Runs, AreCarriedOut}
use Rattle.command_words.specs.Requests.{AsksFor}
use Rattle.command_words.specs.declared.request.Request.{Request}
use Rattle.command_words.specs.declared.request.Request.TheVariants.{Eval, Run, Check, Make}
use Rattle.session_state.specs.Codes.{status}
use Rattle.session_state.specs.Endings.{Ending, Ends}
use Rattle.session_state.specs.Lines.{program_front}
use Rattle.session_state.specs.Steps.{Step, answers}
use Rattle.session_state.specs.Stopping.{StopsBy}
use Rattle.session_state.specs.declared.refusal.Refusal.TheVariants.{Usage}
use Rattle.session_state.specs.declared.stop.Stop.{Stop}
use Rattle.session_state.specs.declared.stop.Stop.TheVariants.{Refused, Fault, Memory}
use Rattle.alphaz_cli.specs.Evaluation.{evaluation}
use Rattle.alphaz_cli.specs.Outcomes.{outcome}
use Rattle.alphaz_cli.specs.Scripts.{script}
use Rattle.alphaz_cli.specs.Tasks.{tasks}
use Rattle.alphaz_cli.specs.declared.status.Status.{Status}
use Rattle.alphaz_cli.specs.declared.task.Task.{Task}

-- what words ask for, or the usage line
abbrev pub asked : List (List ℕ) → Step Request
asked words (Ok request) = AsksFor words request
asked words (Err (Refused refusal)) = (refusal ≡ Usage) × ((request : Request) → AsksFor words request → ⊥)
asked words (Err (Fault call)) = ⊥
asked words (Err Memory) = ⊥

-- a step that is passed, and what follows; or the run stops at it
abbrev pub Before : {A : Type 0} → Step A → (A → Ending → Type 0) → Seen → Seen → Ending → Type 0
Before step rest old new ending =
    ((stop : Stop) × (ending ≡ Err stop) × StopsBy program_front step old stop new) ⊎ ((x : _) × step (Ok x) × rest x ending)

-- the script is read, and then its commands are carried out from nothing on
abbrev pub RunsScript : List ℕ → Seen → Seen → Ending → Type 0
RunsScript file old new ending = Before (script old.files file) (λ commands ending. Runs tasks 1 commands None old ending new) old new ending

-- what words are answered that ask for nothing
abbrev pub usage : Step (List ℕ)
usage = answers (Err (Refused Usage))

-- `check` and `make` aren't there yet, and are answered so
abbrev pub RunsRequest : Request → Seen → Seen → Ending → Type 0
RunsRequest (Eval e) old new ending = Ends (evaluation old.files e) old ending new
RunsRequest (Run file workers) old new ending = RunsScript file old new ending
RunsRequest (Check file certificate) old new ending = Ends usage old ending new
RunsRequest (Make number workers) old new ending = Ends usage old ending new

abbrev pub RunsWords : List (List ℕ) → Seen → Seen → Ending → Type 0
RunsWords words old new ending = Before (asked words) (λ request ending. RunsRequest request old new ending) old new ending

-- A run ends with this answer and exit status.
pub record EndsAs (words : List (List ℕ)) (old : Seen) (answered : Status) (new : Seen) : Type 0 where
  pub ending : Ending
  pub answer : answered.answer ≡ outcome ending
  pub code : answered.code ≡ status ending
  pub ends : RunsWords words old new ending

-- each task of the script that is asked for
abbrev pub EachTask : (Task → Type 0) → Request → Option Files → Type 0
EachTask P (Eval e) files = Unit {0}
EachTask P (Run file workers) files = (commands : List Task) → script files file (Ok commands) → All P commands
EachTask P (Check file certificate) files = Unit {0}
EachTask P (Make number workers) files = Unit {0}

-- each task of a script for which the words ask
abbrev pub OfTasks : (Task → Type 0) → List (List ℕ) → Option Files → Type 0
OfTasks P words files = (request : Request) → AsksFor words request → EachTask P request files

-- nothing that the request comes to is refused: the program has its rows, and each command of the script is carried out
abbrev pub IsCarriedOut : Request → Option Files → Type 0
IsCarriedOut (Eval e) files = (rows : List ℕ) × evaluation files e (Ok rows)
IsCarriedOut (Run file workers) files = (commands : List Task) × script files file (Ok commands) × AreCarriedOut tasks commands files None
IsCarriedOut (Check file certificate) files = ⊥
IsCarriedOut (Make number workers) files = ⊥

-- Of inner functions: the workers that a request asks for are some, and at most 64.
abbrev pub HasWorkers : Request → Type 0
HasWorkers (Eval e) = Unit {0}
HasWorkers (Run file workers) = (1 ≤ workers) × (workers ≤ 64)
HasWorkers (Check file certificate) = Unit {0}
HasWorkers (Make number workers) = Unit {0}
