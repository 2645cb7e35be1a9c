-- From what was said to how a run ended, and what follows from how it ended.
use Rattle.std.proofs.Common.{◌≡◌, ℕ, List, inl, inr, refl, ap, arith}
use Rattle.std.specs.Prelude.{Ok, Err, ◌⊎◌}
use Rattle.az_desk.specs.Desk.{Seen, Rose}
use Rattle.az_desk.specs.declared.call.Call.{Call}
use Rattle.session_state.specs.Codes.{status}
use Rattle.session_state.specs.Endings.{Ending, IsLeft, IsSaid, EndsByFault, Ends}
use Rattle.session_state.specs.Lines.{line, program_front}
use Rattle.session_state.specs.Steps.{Step, Takes}
use Rattle.session_state.specs.declared.refusal.Refusal.{Refusal}
use Rattle.session_state.specs.declared.stop.Stop.{Stop}
use Rattle.session_state.specs.declared.stop.Stop.TheVariants.{Refused, Fault, Memory}

module _ (run : Step (List ℕ)) (old new : Seen) where
  -- what was given is said
  pub ends_listing : (listing : List ℕ) (ending : Ending) → run (Ok listing) → IsSaid listing old ending new → Ends run old ending new
  ends_listing listing (Ok _) h said = (listing, h, said)
  ends_listing listing (Err Memory) h said = said
  ends_listing listing (Err (Refused refusal)) h said = absurd said
  ends_listing listing (Err (Fault call)) h said = inr (said.0, (listing, inl h, said.1))

  -- the line of a refusal is said, whole
  pub ends_line : (refusal : Refusal) → run (Err (Refused refusal)) → IsSaid (line program_front refusal) old (Ok tt) new → Ends run old (Err (Refused refusal)) new
  ends_line refusal h said = (h, said)

  -- or not whole
  pub ends_cut_line : (refusal : Refusal) (stop : Stop) → run (Err (Refused refusal)) → IsSaid (line program_front refusal) old (Err stop) new → Ends run old (Err stop) new
  ends_cut_line refusal Memory h said = said
  ends_cut_line refusal (Refused other) h said = absurd said
  ends_cut_line refusal (Fault call) h said = inr (said.0, (line program_front refusal, inr (refusal, h, refl), said.1))

  -- the run stopped, and not for a refusal
  pub ends_stopped : (stop : Stop) → ((refusal : Refusal) → stop ≡ Refused refusal → ⊥) → Takes run (Err stop) → IsLeft {A = List ℕ} old (Err stop) new → Ends run old (Err stop) new
  ends_stopped Memory apart h left = left
  ends_stopped (Refused refusal) apart h left = absurd (apart refusal refl)
  ends_stopped (Fault call) apart h left = inl (h.1, left)

  same_by_fault : (call : Call) → EndsByFault run old call new → new.files ≡ old.files
  same_by_fault call (inl (h, left)) = ap (λ (s : Seen). s.files) left
  same_by_fault call (inr (is, (listing, h, said))) = ap (λ (s : Seen). s.files) said.1

  -- no file changed
  pub same_files : (ending : Ending) → Ends run old ending new → new.files ≡ old.files
  same_files (Ok _) (listing, h, said) = ap (λ (s : Seen). s.files) said
  same_files (Err Memory) same = ap (λ (s : Seen). s.files) same
  same_files (Err (Refused refusal)) (h, said) = ap (λ (s : Seen). s.files) said
  same_files (Err (Fault call)) fault = same_by_fault call fault

  rose_by_fault : (call : Call) → EndsByFault run old call new → Rose old.faults new.faults
  rose_by_fault call (inl (h, left)) = rw left (omega arith)
  rose_by_fault call (inr (is, (listing, h, said))) = rw said.1 (omega arith)

  -- a run that isn't to be refused is carried out, unless the desk fails or memory runs out
  pub done_or_memory : (ending : Ending) → Ends run old ending new → ((refusal : Refusal) → run (Err (Refused refusal)) → ⊥)
      → (Rose old.faults new.faults → ⊥) → (status ending ≡ 0) ⊎ (status ending ≡ 13)
  done_or_memory (Ok _) ends none honest = inl refl
  done_or_memory (Err Memory) ends none honest = inr refl
  done_or_memory (Err (Refused refusal)) ends none honest = absurd (none refusal ends.0)
  done_or_memory (Err (Fault call)) ends none honest = absurd (honest (rose_by_fault call ends))
