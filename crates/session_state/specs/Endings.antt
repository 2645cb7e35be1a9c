-- What a desk shows when a run or a command ended: how it ended, which files stand and what was said.
use Rattle.std.specs.Prelude.{◌≡◌, ℕ, List, Result, Ok, Err, ◌⊎◌}
use Rattle.az_desk.specs.Desk.{Seen, SaysSome, failed, said_more}
use Rattle.az_desk.specs.declared.call.Call.{Call}
use Rattle.az_desk.specs.declared.call.Call.TheVariants.{Say}
use Rattle.session_state.specs.Lines.{line, program_front}
use Rattle.session_state.specs.Steps.{Step}
use Rattle.session_state.specs.declared.refusal.Refusal.{Refusal}
use Rattle.session_state.specs.declared.stop.Stop.{Stop}
use Rattle.session_state.specs.declared.stop.Stop.TheVariants.{Refused, Fault, Memory}

-- how a run ends
abbrev pub Ending : Type 0
Ending = Result (Unit {0}) Stop

-- Steps that only read leave the desk as it was, but for a failure of the very call that is answered.
abbrev pub IsLeft : {A : Type 0} → Seen → Result A Stop → Seen → Type 0
IsLeft old (Ok x) new = new ≡ old
IsLeft old (Err Memory) new = new ≡ old
IsLeft old (Err (Refused refusal)) new = new ≡ old
IsLeft old (Err (Fault call)) new = new ≡ failed call old

-- The listing is said: whole, or up to a fault, or not for want of memory.
abbrev pub IsSaid : List ℕ → Seen → Ending → Seen → Type 0
IsSaid listing old (Ok _) new = new ≡ said_more listing old
IsSaid listing old (Err Memory) new = new ≡ old
IsSaid listing old (Err (Refused refusal)) new = ⊥
IsSaid listing old (Err (Fault call)) new = (call ≡ Say) × SaysSome listing old new

-- A run that only reads has one listing: what it gives, or the line of its refusal.
module _ (run : Step (List ℕ)) where
  abbrev pub IsRefusalLine : List ℕ → Type 0
  IsRefusalLine listing = (refusal : Refusal) × run (Err (Refused refusal)) × (listing ≡ line program_front refusal)

  abbrev pub IsListing : List ℕ → Type 0
  IsListing listing = run (Ok listing) ⊎ IsRefusalLine listing

  -- a call of the run failed before anything was said, or the saying of its listing
  abbrev pub EndsByFault : Seen → Call → Seen → Type 0
  EndsByFault old call new =
      (run (Err (Fault call)) × (new ≡ failed call old)) ⊎ ((call ≡ Say) × ((listing : List ℕ) × IsListing listing × SaysSome listing old new))

  -- How it ends, and what the desk shows then: the whole listing was said, or a front of it at a fault, or nothing for
  -- want of memory.
  abbrev pub Ends : Seen → Ending → Seen → Type 0
  Ends old (Ok _) new = (listing : List ℕ) × run (Ok listing) × (new ≡ said_more listing old)
  Ends old (Err (Refused refusal)) new = run (Err (Refused refusal)) × (new ≡ said_more (line program_front refusal) old)
  Ends old (Err (Fault call)) new = EndsByFault old call new
  Ends old (Err Memory) new = new ≡ old
