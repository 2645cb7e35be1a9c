-- The listing. Commands are carried out in order, each on the session that the one before it left and over the files
-- that it left. Each that is carried out adds its line and its text, which are said by one call. The first that is
-- refused adds the line of its refusal and ends the listing. A call on the desk that fails, and want of memory, end it
-- where they come.
use Rattle.std.specs.Prelude.{◌≡◌, ◌⊎◌, ℕ, ◌+◌, List, [], ◌∷◌, Option, Some, None, Ok, Err}
use Rattle.az_desk.specs.Desk.{Seen, WritesSome, said_more}
use Rattle.az_desk.specs.Files.{Files}
use Rattle.az_desk.specs.declared.call.Call.TheVariants.{Write}
use Rattle.session_state.specs.Endings.{Ending, IsSaid}
use Rattle.session_state.specs.Session.{Session, Carried}
use Rattle.session_state.specs.Steps.{Step}
use Rattle.session_state.specs.Stopping.{StopsBy}
use Rattle.session_state.specs.Writings.{FileText, with_written, files_after}
use Rattle.session_state.specs.declared.refusal.Refusal.{Refusal}
use Rattle.session_state.specs.declared.stop.Stop.{Stop}
use Rattle.session_state.specs.declared.stop.Stop.TheVariants.{Refused, Fault}
use Rattle.command_listing.specs.Commands.{Commands, front, said}

-- the writing of a command's file fails, and a front of it stands under its name
abbrev pub FailsToWrite : Option FileText → Step Carried → Seen → Stop → Seen → Type 0
FailsToWrite None step old stop new = ⊥
FailsToWrite (Some file) step old stop new = (stop ≡ Fault (Write file.name)) × step (Err (Fault (Write file.name))) × WritesSome file.name file.bytes old new

module _ {C : Type 0} (commands : Commands C) where
  abbrev pub said_of : ℕ → C → Carried → List ℕ
  said_of number command done = said number (commands.word command) (commands.answer command) done.text

  -- what the desk shows when a command is carried out, and when it was said
  abbrev pub left_by : C → Session → Seen → Seen
  left_by command session old = with_written (commands.writes command session) old

  abbrev pub told_of : ℕ → C → Session → Carried → Seen → Seen
  told_of number command session done old = said_more (said_of number command done) (left_by command session old)

  -- The run stops at this command: it isn't carried out, as one that reads, or at its writing; or it is and what is said
  -- of it isn't said whole.
  abbrev pub StopsAt : ℕ → C → Session → Seen → Stop → Seen → Type 0
  StopsAt number command session old stop new =
      StopsBy (front number (commands.word command)) (commands.gives command old.files session) old stop new
      ⊎ (FailsToWrite (commands.writes command session) (commands.gives command old.files session) old stop new
      ⊎ ((done : Carried) × commands.gives command old.files session (Ok done) × IsSaid (said_of number command done) (left_by command session old) (Err stop) new))

  -- how a run of commands from this number on ends, and what the desk shows then
  abbrev pub Runs : ℕ → List C → Session → Seen → Ending → Seen → Type 0
  Runs number [] session old ending new = (ending ≡ Ok tt) × (new ≡ old)
  Runs number (command ∷ rest) session old ending new =
      ((stop : Stop) × (ending ≡ Err stop) × StopsAt number command session old stop new)
      ⊎ ((done : Carried) × commands.gives command old.files session (Ok done) × Runs (number + 1) rest done.session (told_of number command session done old) ending new)

  -- every command is carried out
  abbrev pub AreCarriedOut : List C → Option Files → Session → Type 0
  AreCarriedOut [] files session = Unit {0}
  AreCarriedOut (command ∷ rest) files session =
      (done : Carried) × commands.gives command files session (Ok done) × AreCarriedOut rest (files_after (commands.writes command session) files) done.session

  -- no command that is reached is refused
  abbrev pub AreUnrefused : List C → Option Files → Session → Type 0
  AreUnrefused [] files session = Unit {0}
  AreUnrefused (command ∷ rest) files session =
      ((refusal : Refusal) → commands.gives command files session (Err (Refused refusal)) → ⊥)
      × ((done : Carried) → commands.gives command files session (Ok done) → AreUnrefused rest (files_after (commands.writes command session) files) done.session)
