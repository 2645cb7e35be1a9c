-- Steps that are taken one after the other.
use Rattle.std.specs.Prelude.{Result, Ok, Err}
use Rattle.std.proofs.Common.{◌≡◌, inl, inr, ap, ◌∙◌}
use Rattle.az_desk.specs.Desk.{Seen, failed}
use Rattle.az_desk.specs.declared.call.Call.{Call}
use Rattle.session_state.specs.Endings.{IsLeft}
use Rattle.session_state.specs.Steps.{Step, ◌>>=◌, TakesBy, Takes, TakesAlone}
use Rattle.session_state.specs.declared.stop.Stop.{Stop}
use Rattle.session_state.specs.declared.stop.Stop.TheVariants.{Refused, Fault, Memory}

module _ {A B : Type 0} (fails : Call → Type 0) (first : Step A) (rest : A → Step B) where
  -- the first stops
  pub stops_first : (stop : Stop) → TakesBy fails first (Err stop) → TakesBy fails (first >>= rest) (Err stop)
  stops_first (Refused refusal) h = inl h
  stops_first (Fault call) h = (h.0, inl h.1)
  stops_first Memory h = tt

  -- the first gives a value
  pub goes_on : (x : A) (result : Result B Stop) → first (Ok x) → TakesBy fails (rest x) result → TakesBy fails (first >>= rest) result
  goes_on x (Ok y) h more = (x, h, more)
  goes_on x (Err (Refused refusal)) h more = inr (x, h, more)
  goes_on x (Err (Fault call)) h more = (more.0, inr (x, h, more.1))
  goes_on x (Err Memory) h more = tt

module _ {A : Type 0} (step : Step A) where
  -- what is taken without the desk
  pub alone_takes : (result : Result A Stop) → TakesAlone step result → Takes step result
  alone_takes (Ok x) h = h
  alone_takes (Err (Refused refusal)) h = h
  alone_takes (Err (Fault call)) h = absurd h.0
  alone_takes (Err Memory) h = tt

  pub left_alone : (old new : Seen) (result : Result A Stop) → TakesAlone step result → new ≡ old → IsLeft old result new
  left_alone old new (Ok x) h same = same
  left_alone old new (Err (Refused refusal)) h same = same
  left_alone old new (Err (Fault call)) h same = absurd h.0
  left_alone old new (Err Memory) h same = same

-- what two calls leave, of which the first gives a value
pub left_then : {B : Type 0} (old between new : Seen) (result : Result B Stop) → between ≡ old → IsLeft between result new → IsLeft old result new
left_then old between new (Ok y) first second = second ∙ first
left_then old between new (Err (Refused refusal)) first second = second ∙ first
left_then old between new (Err (Fault call)) first second = second ∙ ap (failed call) first
left_then old between new (Err Memory) first second = second ∙ first

-- a stop leaves what it leaves, whatever it keeps from being given
pub left_stop : (A B : Type 0) (old new : Seen) (stop : Stop) → IsLeft {A = A} old (Err stop) new → IsLeft {A = B} old (Err stop) new
left_stop A B old new (Refused refusal) h = h
left_stop A B old new (Fault call) h = h
left_stop A B old new Memory h = h
