-- From what was said of a step that wasn't passed to what it comes from, and what follows.
use Rattle.std.proofs.Common.{◌≡◌, ℕ, List, inl, inr, refl, sym, subst, ap, ◌∙◌, arith}
use Rattle.std.specs.Prelude.{Err}
use Rattle.az_desk.specs.Desk.{Seen, Rose, SaysSome, said_more}
use Rattle.session_state.specs.Endings.{IsLeft, IsSaid}
use Rattle.session_state.specs.Lines.{line}
use Rattle.session_state.specs.Steps.{Step, Takes}
use Rattle.session_state.specs.Stopping.{IsLineSaid, IsStopSaid, StopsBy}
use Rattle.session_state.specs.declared.refusal.Refusal.{Refusal}
use Rattle.session_state.specs.declared.stop.Stop.{Stop}
use Rattle.session_state.specs.declared.stop.Stop.TheVariants.{Refused, Fault, Memory}

module _ (front : List ℕ) {A : Type 0} (step : Step A) (old : Seen) where
  by_line : (between new : Seen) (refusal : Refusal) (stop : Stop) → step (Err (Refused refusal)) → between ≡ old → IsLineSaid front refusal between stop new → StopsBy front step old stop new
  by_line between new refusal (Refused same) taken left (is, said) = (
    subst (λ (r : Refusal). step (Err (Refused r))) (sym is) taken,
    said ∙ (ap (said_more (line front refusal)) left ∙ ap (λ (r : Refusal). said_more (line front r) old) (sym is)),
  )
  by_line between new refusal (Fault call) taken left (is, said) = inr (is, (refusal, taken, subst (λ (s : Seen). SaysSome (line front refusal) s new) left said))
  by_line between new refusal Memory taken left said = said ∙ left

  pub stops_by : (between new : Seen) (fault stop : Stop) → Takes step (Err fault) → IsLeft {A = A} old (Err fault) between → IsStopSaid front fault between stop new → StopsBy front step old stop new
  stops_by between new (Refused refusal) stop taken left said = by_line between new refusal stop taken left said
  stops_by between new (Fault call) stop taken left (is, same) =
      subst (λ (s : Stop). StopsBy front step old s new) (sym is) (inl (taken.1, same ∙ left))
  stops_by between new Memory stop taken left (is, same) = subst (λ (s : Stop). StopsBy front step old s new) (sym is) (same ∙ left)

  -- no file changed
  pub same_by_stop : (new : Seen) (stop : Stop) → StopsBy front step old stop new → new.files ≡ old.files
  same_by_stop new (Refused refusal) h = ap (λ (s : Seen). s.files) h.1
  same_by_stop new (Fault call) (inl h) = ap (λ (s : Seen). s.files) h.1
  same_by_stop new (Fault call) (inr (is, (refusal, taken, said))) = ap (λ (s : Seen). s.files) said.1
  same_by_stop new Memory h = ap (λ (s : Seen). s.files) h

  -- a step that isn't refused stops for a failing desk, or for want of memory
  pub stops_by_fault : (new : Seen) (stop : Stop) → StopsBy front step old stop new → ((refusal : Refusal) → step (Err (Refused refusal)) → ⊥) → (Rose old.faults new.faults → ⊥) → stop ≡ Memory
  stops_by_fault new (Refused refusal) h none honest = absurd (none refusal h.0)
  stops_by_fault new (Fault call) (inl h) none honest = absurd (honest (rw h.1 (omega arith)))
  stops_by_fault new (Fault call) (inr (is, (refusal, taken, said))) none honest = absurd (honest (rw said.1 (omega arith)))
  stops_by_fault new Memory h none honest = refl

-- a text that isn't said whole
pub same_by_text : (text : List ℕ) (old new : Seen) (stop : Stop) → IsSaid text old (Err stop) new → new.files ≡ old.files
same_by_text text old new (Refused refusal) h = absurd h
same_by_text text old new (Fault call) h = ap (λ (s : Seen). s.files) h.1.1
same_by_text text old new Memory h = ap (λ (s : Seen). s.files) h

pub text_by_fault : (text : List ℕ) (old new : Seen) (stop : Stop) → IsSaid text old (Err stop) new → (Rose old.faults new.faults → ⊥) → stop ≡ Memory
text_by_fault text old new (Refused refusal) h honest = absurd h
text_by_fault text old new (Fault call) h honest = absurd (honest (rw h.1.1 (omega arith)))
text_by_fault text old new Memory h honest = refl
