-- What words ask for: the command, and behind it the plain words and the count of workers that it wants.
use Rattle.std.specs.Prelude.{◌≡◌, ℕ, ◌≤◌, List, [], ◌∷◌, codes, Option, Some, None, Result, Ok, Err}
use Rattle.std.specs.Fmt.{decimal}
use Rattle.std.specs.declared.alloc.AllocError.{AllocError}
use Rattle.command_words.specs.Evaluations.{HasPlain}
use Rattle.command_words.specs.Lines.{Line, line_of}
use Rattle.command_words.specs.declared.request.Request.{Request}
use Rattle.command_words.specs.declared.request.Request.TheVariants.{Eval, Run, Check, Make}

-- a number from 1 on, without a sign or a leading zero
pub record IsCount (most : ℕ) (text : List ℕ) (count : ℕ) : Type 0 where
  pub spelled : text ≡ decimal count
  pub some : 1 ≤ count
  pub few : count ≤ most

-- up to 64 workers, and one where they aren't counted
abbrev pub IsWorkers : Option (List ℕ) → ℕ → Type 0
IsWorkers None count = count ≡ 1
IsWorkers (Some text) count = IsCount 64 text count

abbrev pub command_of : Request → List ℕ
command_of (Eval evaluation) = codes "eval"
command_of (Run script workers) = codes "run"
command_of (Check script certificate) = codes "check"
command_of (Make number workers) = codes "make"

-- what the words behind the command have to be
abbrev pub HasLine : Line → Request → Type 0
HasLine line (Eval evaluation) = (line.workers ≡ None) × HasPlain line.plain evaluation
HasLine line (Run script workers) = (line.plain ≡ script ∷ []) × IsWorkers line.workers workers
HasLine line (Check script certificate) = (line.workers ≡ None) × (line.plain ≡ script ∷ certificate ∷ [])
HasLine line (Make number workers) = ((text : List ℕ) × (line.plain ≡ text ∷ []) × IsCount 128 text number) × IsWorkers line.workers workers

-- what is found for a command and its line
abbrev pub Finds : List ℕ → Line → Result (Option Request) AllocError → Type 0
Finds command line (Ok (Some request)) = (command_of request ≡ command) × HasLine line request
Finds command line (Ok None) = (request : Request) → command_of request ≡ command → HasLine line request → ⊥
Finds command line (Err fault) = Unit {0}

pub record AsksFor (words : List (List ℕ)) (request : Request) : Type 0 where
  pub behind : List (List ℕ)
  pub line : Line
  pub command : words ≡ command_of request ∷ behind
  pub line_is : line_of behind ≡ Some line
  pub asks : HasLine line request
