-- One command's turn, from what its calls answered.
use Rattle.std.proofs.Common.{◌≡◌, ◌⊎◌, ℕ, List, inl, inr, refl, sym, subst, ap, ◌∙◌}
use Rattle.std.specs.Prelude.{Option, Some, None, Result, Ok, Err}
use Rattle.az_desk.specs.Desk.{Seen, WritesSome, said_more}
use Rattle.az_desk.specs.declared.call.Call.{Call}
use Rattle.session_state.specs.Endings.{Ending, IsLeft, IsSaid}
use Rattle.session_state.specs.Session.{Session, Carried, carried}
use Rattle.session_state.specs.Steps.{Step, Takes}
use Rattle.session_state.specs.Stopping.{IsStopSaid, StopsBy}
use Rattle.session_state.specs.Writings.{FileText, IsLeftWith, with_written}
use Rattle.session_state.specs.declared.stop.Stop.{Stop}
use Rattle.session_state.specs.declared.stop.Stop.TheVariants.{Refused, Fault, Memory}
use Rattle.session_state.proofs.Stopped.{stops_by}
use Rattle.command_listing.specs.Commands.{Commands, front}
use Rattle.command_listing.specs.Listing.{FailsToWrite, said_of, StopsAt}
use Rattle.command_listing.specs.Turns.{IsTurnSaid, EndsTurn}

left_ok : (file : Option FileText) (old between : Seen) (text : List ℕ) → IsLeftWith file old (Ok text) between → between ≡ with_written file old
left_ok None old between text same = same
left_ok (Some file) old between text same = same

as_left : (old between : Seen) (stop : Stop) → IsLeft {A = List ℕ} old (Err stop) between → IsLeft {A = Carried} old (Err stop) between
as_left old between (Refused refusal) h = h
as_left old between (Fault call) h = h
as_left old between Memory h = h

module _ (before : List ℕ) (step : Step Carried) (old between new : Seen) where
  -- it wasn't carried out, and the desk is left so
  stopped : (file : Option FileText) (fault stop : Stop) → Takes step (Err fault) → IsLeftWith {A = List ℕ} file old (Err fault) between → IsStopSaid before fault between stop new
      → StopsBy before step old stop new ⊎ FailsToWrite file step old stop new
  stopped None fault stop taken desk said = inl (stops_by before step old between new fault stop taken (as_left old between fault desk) said)
  stopped (Some file) (Refused refusal) stop taken desk said = inl (stops_by before step old between new (Refused refusal) stop taken desk said)
  stopped (Some file) Memory stop taken desk said = inl (stops_by before step old between new Memory stop taken desk said)
  stopped (Some file) (Fault call) stop taken (inl left) said = inl (stops_by before step old between new (Fault call) stop taken left said)
  stopped (Some file) (Fault call) stop taken (inr (is, some)) said =
      inr (said.0 ∙ ap Fault is, subst (λ (c : Call). step (Err (Fault c))) is taken.1, subst (λ (s : Seen). WritesSome file.name file.bytes old s) (sym said.1) some)

module _ {C : Type 0} (commands : Commands C) (number : ℕ) (command : C) (session left : Session) (old between new : Seen) where
  among : (stop : Stop) → StopsBy (front number (commands.word command)) (commands.gives command old.files session) old stop new
      ⊎ FailsToWrite (commands.writes command session) (commands.gives command old.files session) old stop new → StopsAt commands number command session old stop new
  among stop (inl h) = inl h
  among stop (inr h) = inr (inl h)

  -- it wasn't carried out
  not_carried : (fault stop : Stop) → Takes (commands.gives command old.files session) (carried left (Err fault)) → IsLeftWith {A = List ℕ} (commands.writes command session) old (Err fault) between
      → IsStopSaid (front number (commands.word command)) fault between stop new → StopsAt commands number command session old stop new
  not_carried fault stop taken desk said =
      among stop (stopped (front number (commands.word command)) (commands.gives command old.files session) old between new (commands.writes command session) fault stop taken desk said)

  -- it was, and was said, or not whole
  carried_said : (text : List ℕ) (ending : Ending) → Takes (commands.gives command old.files session) (carried left (Ok text)) → IsLeftWith (commands.writes command session) old (Ok text) between
      → IsSaid (said_of commands number command (record { session = left; text = text })) between ending new → EndsTurn commands number command session old left ending new
  carried_said text (Ok _) taken desk said =
      let done : Carried = record { session = left; text = text } in
      (done, taken, refl, said ∙ ap (said_more (said_of commands number command done)) (left_ok (commands.writes command session) old between text desk))
  carried_said text (Err stop) taken desk said =
      let done : Carried = record { session = left; text = text } in
      inr (inr (done, taken, subst (λ (s : Seen). IsSaid (said_of commands number command done) s (Err stop) new) (left_ok (commands.writes command session) old between text desk) said))

  -- a turn, from what the command answered and what was said of it
  pub ends_turn : (result : Result (List ℕ) Stop) (ending : Ending) → Takes (commands.gives command old.files session) (carried left result)
      → IsLeftWith (commands.writes command session) old result between → IsTurnSaid number (commands.word command) (commands.answer command) result between ending new
      → EndsTurn commands number command session old left ending new
  ends_turn (Ok text) ending taken desk said = carried_said text ending taken desk said
  ends_turn (Err fault) ending taken desk (stop, is, said) =
      subst (λ (e : Ending). EndsTurn commands number command session old left e new) (sym is) (not_carried fault stop taken desk said)
