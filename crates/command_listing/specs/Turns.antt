-- One command's turn.
use Rattle.std.specs.Prelude.{◌≡◌, ℕ, List, Result, Ok, Err}
use Rattle.az_desk.specs.Desk.{Seen}
use Rattle.session_state.specs.Endings.{Ending, IsSaid}
use Rattle.session_state.specs.Session.{Session, Carried}
use Rattle.session_state.specs.Stopping.{IsStopSaid}
use Rattle.session_state.specs.declared.stop.Stop.{Stop}
use Rattle.command_listing.specs.Commands.{Commands, front, said}
use Rattle.command_listing.specs.Listing.{told_of, StopsAt}

-- what is said of a command that answered so, and how its turn ends
abbrev pub IsTurnSaid : ℕ → List ℕ → List ℕ → Result (List ℕ) Stop → Seen → Ending → Seen → Type 0
IsTurnSaid number word answer (Ok text) old ending new = IsSaid (said number word answer text) old ending new
IsTurnSaid number word answer (Err fault) old ending new = (stop : Stop) × (ending ≡ Err stop) × IsStopSaid (front number word) fault old stop new

module _ {C : Type 0} (commands : Commands C) where
  -- it is carried out, leaves this session and is said whole, or the run stops at it
  abbrev pub EndsTurn : ℕ → C → Session → Seen → Session → Ending → Seen → Type 0
  EndsTurn number command session old left (Ok _) new =
      (done : Carried) × commands.gives command old.files session (Ok done) × (left ≡ done.session) × (new ≡ told_of commands number command session done old)
  EndsTurn number command session old left (Err stop) new = StopsAt commands number command session old stop new
