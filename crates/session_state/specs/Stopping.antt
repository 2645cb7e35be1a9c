-- A step that isn't passed: what is said then, behind what says where it comes from, and what the desk shows.
use Rattle.std.specs.Prelude.{◌≡◌, ◌⊎◌, ℕ, List, Err}
use Rattle.az_desk.specs.Desk.{Seen, SaysSome, failed, said_more}
use Rattle.az_desk.specs.declared.call.Call.TheVariants.{Say}
use Rattle.session_state.specs.Lines.{line}
use Rattle.session_state.specs.Steps.{Step}
use Rattle.session_state.specs.declared.refusal.Refusal.{Refusal}
use Rattle.session_state.specs.declared.stop.Stop.{Stop}
use Rattle.session_state.specs.declared.stop.Stop.TheVariants.{Refused, Fault, Memory}

module _ (front : List ℕ) where
  -- A refusal's line is said: whole, or up to a fault, or not for want of memory.
  abbrev pub IsLineSaid : Refusal → Seen → Stop → Seen → Type 0
  IsLineSaid refusal old (Refused same) new = (same ≡ refusal) × (new ≡ said_more (line front refusal) old)
  IsLineSaid refusal old (Fault call) new = (call ≡ Say) × SaysSome (line front refusal) old new
  IsLineSaid refusal old Memory new = new ≡ old

  -- A fault, and want of memory, have no line.
  abbrev pub IsStopSaid : Stop → Seen → Stop → Seen → Type 0
  IsStopSaid (Refused refusal) old stop new = IsLineSaid refusal old stop new
  IsStopSaid (Fault call) old stop new = (stop ≡ Fault call) × (new ≡ old)
  IsStopSaid Memory old stop new = (stop ≡ Memory) × (new ≡ old)

  -- What stands after a step that only reads wasn't passed: its refusal's line was said, or a front of the line, where
  -- to say it failed; or a call of the step failed; or memory ran out, in the step or before its line.
  abbrev pub StopsBy : {A : Type 0} → Step A → Seen → Stop → Seen → Type 0
  StopsBy step old (Refused refusal) new = step (Err (Refused refusal)) × (new ≡ said_more (line front refusal) old)
  StopsBy step old (Fault call) new =
      (step (Err (Fault call)) × (new ≡ failed call old))
      ⊎ ((call ≡ Say) × ((refusal : Refusal) × step (Err (Refused refusal)) × SaysSome (line front refusal) old new))
  StopsBy step old Memory new = new ≡ old
