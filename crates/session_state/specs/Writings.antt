-- Writing a file: what stands under its name then, and what the desk shows where that fails.
use Rattle.std.specs.Prelude.{◌≡◌, ◌⊎◌, ℕ, List, Option, Some, None, option_map, Result, Ok, Err}
use Rattle.az_desk.specs.Desk.{Seen, WritesSome, failed, written}
use Rattle.az_desk.specs.Files.{Files, with_file}
use Rattle.az_desk.specs.declared.call.Call.TheVariants.{Write}
use Rattle.session_state.specs.Endings.{IsLeft}
use Rattle.session_state.specs.Steps.{Step}
use Rattle.session_state.specs.declared.stop.Stop.{Stop}
use Rattle.session_state.specs.declared.stop.Stop.TheVariants.{Refused, Fault, Memory}

pub record FileText : Type 0 where
  pub name : List ℕ
  pub bytes : List ℕ

-- the desk, and its files, with the file that is written, where there is one
abbrev pub with_written : Option FileText → Seen → Seen
with_written None old = old
with_written (Some file) old = written file.name file.bytes old

abbrev pub files_after : Option FileText → Option Files → Option Files
files_after None files = files
files_after (Some file) files = option_map (with_file file.name file.bytes) files

-- the file is written, or this very write fails
abbrev pub write_to : List ℕ → Step (Unit {0})
write_to file (Ok _) = Unit {0}
write_to file (Err (Refused refusal)) = ⊥
write_to file (Err (Fault call)) = call ≡ Write file
write_to file (Err Memory) = ⊥

-- What steps leave that read, and last of all write this file. Where the write fails, a front of the bytes may stand
-- under the name.
abbrev pub IsLeftWith : {A : Type 0} → Option FileText → Seen → Result A Stop → Seen → Type 0
IsLeftWith None old result new = IsLeft old result new
IsLeftWith (Some file) old (Ok x) new = new ≡ with_written (Some file) old
IsLeftWith (Some file) old (Err Memory) new = new ≡ old
IsLeftWith (Some file) old (Err (Refused refusal)) new = new ≡ old
IsLeftWith (Some file) old (Err (Fault call)) new = (new ≡ failed call old) ⊎ ((call ≡ Write file.name) × WritesSome file.name file.bytes old new)
