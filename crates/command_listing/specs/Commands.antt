-- Commands: the word of each, what its line answers where it is carried out, what it does, and the file that it writes
-- last of all, where it writes one.
use Rattle.std.specs.Prelude.{ℕ, List, ◌++◌, codes, Option}
use Rattle.std.specs.Fmt.{decimal}
use Rattle.az_desk.specs.Files.{Files}
use Rattle.session_state.specs.Session.{Session, Carried}
use Rattle.session_state.specs.Steps.{Step}
use Rattle.session_state.specs.Writings.{FileText}

pub record Commands (C : Type 0) : Type 1 where
  pub word : C → List ℕ
  pub answer : C → List ℕ
  pub gives : C → Option Files → Session → Step Carried
  pub writes : C → Session → Option FileText

-- what stands before a command's line: its number from 1, and its word
abbrev pub front : ℕ → List ℕ → List ℕ
front number word = decimal number ++ (codes " " ++ (word ++ codes ": "))

-- what is said of a command that is carried out: its line, and its text
abbrev pub said : ℕ → List ℕ → List ℕ → List ℕ → List ℕ
said number word answer text = front number word ++ (answer ++ (codes "\n" ++ text))
