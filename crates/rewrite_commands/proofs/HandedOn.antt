-- What a changing call answers, handed on as a command's answer, is that of the steps.
use Rattle.std.proofs.Common.{◌≡◌, ℕ, List, Option, Some, None, Result, Ok, Err, inl, refl, sym, ap, subst, ◌∙◌}
use Rattle.std.specs.Prelude.{MatchOption}
use Rattle.std.specs.Option.{option_and_then}
use Rattle.std.proofs.lemmas.Option.{same_Some, none-some}
use Rattle.az_ast.specs.Certified.{IsCertified}
use Rattle.az_ast.specs.Shapes.{limit_of}
use Rattle.az_ast.specs.System.{System}
use Rattle.az_ast.specs.declared.reason.Reason.{Reason as Why}
use Rattle.az_ast.specs.declared.reason.Reason.TheVariants.{Unknown, Entry}
use Rattle.domain_check.specs.declared.fault.CertifyFault.{CertifyFault}
use Rattle.domain_check.specs.declared.fault.CertifyFault.TheVariants as certify
use Rattle.program_commands.specs.Programs.{check_refusal, certified}
use Rattle.rewriting.specs.Answers.{GivesIf, Uncertified, IsRefusedFor, Unless}
use Rattle.rewriting.specs.Named.{number_of, ForNamed}
use Rattle.rewriting.specs.declared.fault.ChangeFault.{ChangeFault}
use Rattle.rewriting.specs.declared.fault.ChangeFault.TheVariants.{Reason, Certify, Overflow, Limit, Memory}
use Rattle.session_state.proofs.Taking.{goes_on}
use Rattle.session_state.specs.Steps.{Step, ◌>>=◌, TakesAlone, IsStopFor, gives, some_or, unless, holds_or}
use Rattle.session_state.specs.declared.refusal.Refusal.{Refusal}
use Rattle.session_state.specs.declared.refusal.Refusal.TheVariants.{Command, Limited}
use Rattle.session_state.specs.declared.stop.Stop.{Stop}
use Rattle.session_state.specs.declared.stop.Stop.TheVariants as stop
use Rattle.rewrite_commands.specs.Changes.{variable, unless_reason, limit_refusal, accepted}
use Rattle.rewrite_commands.specs.Inner.{change_refusal}

-- a changed program as it is, and a fault by the refusal that it has
abbrev pub IsHandedOn : (ChangeFault → Option Refusal) → Result System ChangeFault → Result System Stop → Type 0
IsHandedOn refusal (Ok q) (Ok r) = (r ≡ q) × IsCertified q
IsHandedOn refusal (Ok q) (Err why) = ⊥
IsHandedOn refusal (Err fault) (Ok r) = ⊥
IsHandedOn refusal (Err fault) (Err why) = IsStopFor (refusal fault) why

-- a stop for a cause, where the step is refused for that; want of memory stops anything
pub stopped : {A : Type 0} (step : Step A) (cause : Option Refusal) (why : Stop) → ((refusal : Refusal) → cause ≡ Some refusal → step (Err (stop.Refused refusal))) → IsStopFor cause why → TakesAlone step (Err why)
stopped step cause (stop.Refused refusal) to is = to refusal is
stopped step cause (stop.Fault call) to is = absurd is
stopped step cause stop.Memory to is = tt

pub remembered : {A : Type 0} (step : Step A) (cause : Option Refusal) (why : Stop) → cause ≡ None → IsStopFor cause why → TakesAlone step (Err why)
remembered step cause why none is = stopped step cause why (λ refusal some. absurd (none-some refusal (sym none ∙ some))) is

-- a test for a cause
module _ {A : Type 0} (cause : Option Refusal) (rest : Unit {0} → Step A) where
  pub unless_stops : (refusal : Refusal) → cause ≡ Some refusal → (unless cause >>= rest) (Err (stop.Refused refusal))
  unless_stops refusal is = subst (λ o. (unless o >>= rest) (Err (stop.Refused refusal))) (sym is) (inl refl)

  pub unless_passes : (s : Result A Stop) → cause ≡ None → TakesAlone (rest tt) s → TakesAlone (unless cause >>= rest) s
  unless_passes s is h = subst (λ o. TakesAlone (unless o >>= rest) s) (sym is) (goes_on (λ call. ⊥) (gives tt) rest tt s refl h)

module _ (refusal : ChangeFault → Option Refusal) (own : (why : Why) → refusal (Reason why) ≡ Some (Command why)) (none : refusal Memory ≡ None) where
  -- a call that is refused for a reason
  pub refused_takes : (why : Why) (step : Step System) (r : Result System ChangeFault) (s : Result System Stop)
      → IsHandedOn refusal r s → IsRefusedFor why r → step (Err (stop.Refused (Command why))) → TakesAlone step s
  refused_takes why step (Ok q) s on h to = absurd h
  refused_takes why step (Err (Reason other)) (Ok q) on h to = absurd on
  refused_takes why step (Err (Reason other)) (Err found) on h to =
      stopped step (refusal (Reason other)) found
      (λ said is. subst (λ (f : Refusal). step (Err (stop.Refused f))) (same_Some (Command why) said (ap (λ (w : Why). Some (Command w)) (sym h) ∙ sym (own other) ∙ is)) to) on
  refused_takes why step (Err (Certify fault)) s on h to = absurd h
  refused_takes why step (Err (Overflow number)) s on h to = absurd h
  refused_takes why step (Err (Limit limit)) s on h to = absurd h
  refused_takes why step (Err Memory) (Ok q) on h to = absurd on
  refused_takes why step (Err Memory) (Err found) on h to = remembered step (refusal Memory) found none on

  -- the reasons of its own
  pub reason_takes : (reason : Option Why) (answers : Result System ChangeFault → Type 0) (rest : Unit {0} → Step System) (r : Result System ChangeFault) (s : Result System Stop)
      → IsHandedOn refusal r s → Unless reason answers r → (answers r → TakesAlone (rest tt) s) → TakesAlone (unless_reason reason >>= rest) s
  reason_takes None answers rest r s on h to = unless_passes None rest s refl (to h)
  reason_takes (Some why) answers rest r s on h to = refused_takes why (unless_reason (Some why) >>= rest) r s on h (inl refl)

  -- the variable with a name
  pub named_takes : (p : System) (name : List ℕ) (answers : ℕ → Result System ChangeFault → Type 0) (rest : ℕ → Step System) (r : Result System ChangeFault) (s : Result System Stop)
      → IsHandedOn refusal r s → ForNamed p name answers r → ((x : ℕ) → number_of p name ≡ Some x → answers x r → TakesAlone (rest x) s) → TakesAlone (variable p name >>= rest) s
  named_takes p name answers rest r s on h to = by (number_of p name) refl h
    where
      by : (o : Option ℕ) → number_of p name ≡ o → MatchOption o (IsRefusedFor (Unknown name) r) (λ x. answers x r) → TakesAlone (variable p name >>= rest) s
      by None is h = refused_takes (Unknown name) (variable p name >>= rest) r s on h (inl (subst (λ o. some_or (Command (Unknown name)) o (Err (stop.Refused (Command (Unknown name))))) (sym is) refl))
      by (Some x) is h = goes_on (λ call. ⊥) (variable p name) rest x s (subst (λ o. some_or (Command (Unknown name)) o (Ok x)) (sym is) refl) (to x is h)

-- the variable that a name has
pub found_takes : {A : Type 0} (p : System) (name : List ℕ) (rest : ℕ → Step A) (x : ℕ) (s : Result A Stop) → number_of p name ≡ Some x → TakesAlone (rest x) s → TakesAlone (variable p name >>= rest) s
found_takes p name rest x s is h = goes_on (λ call. ⊥) (variable p name) rest x s (subst (λ o. some_or (Command (Unknown name)) o (Ok x)) (sym is) refl) h

-- the result of a change
module _ (fits : Type 0) (q : System) where
  abbrev limit : Option Refusal
  limit = option_and_then limit_refusal (limit_of q)

  abbrev entries : Step (Unit {0})
  entries = holds_or (Command Entry) fits

  abbrev checked : Unit {0} → Step System
  checked _ = certified q

  abbrev limited : Unit {0} → Step System
  limited _ = unless limit >>= checked

  enters : (s : Result System Stop) → fits → TakesAlone (limited tt) s → TakesAlone (accepted fits q) s
  enters s fit h = goes_on (λ call. ⊥) entries limited tt s fit h

  within : (s : Result System Stop) → limit_of q ≡ None → TakesAlone (certified q) s → TakesAlone (limited tt) s
  within s is h = unless_passes limit checked s (ap (option_and_then limit_refusal) is) h

  uncertified_takes : (fault : CertifyFault) (found : Stop) → Uncertified q fault → IsStopFor (check_refusal q fault) found → TakesAlone (certified q) (Err found)
  uncertified_takes (certify.No found_no) found h is = stopped (certified q) (check_refusal q (certify.No found_no)) found (λ refusal same. (certify.No found_no, h, same)) is
  uncertified_takes (certify.Overflow kind x number) found h is = stopped (certified q) (check_refusal q (certify.Overflow kind x number)) found (λ refusal same. (certify.Overflow kind x number, h, same)) is
  uncertified_takes certify.Entry found h is = stopped (certified q) (check_refusal q certify.Entry) found (λ refusal same. (certify.Entry, h, same)) is
  uncertified_takes (certify.Limit limit) found h is = stopped (certified q) (check_refusal q (certify.Limit limit)) found (λ refusal same. (certify.Limit limit, h, same)) is
  uncertified_takes certify.Memory found h is = absurd h

  pub accepted_takes : (r : Result System ChangeFault) (s : Result System Stop) → IsHandedOn (change_refusal q) r s → GivesIf fits q r → TakesAlone (accepted fits q) s
  accepted_takes (Ok changed) (Ok other) on h = enters (Ok other) h.0 (within (Ok other) h.1.1 (on.0 ∙ h.1.0, h.1.2, subst IsCertified h.1.0 on.1))
  accepted_takes (Ok changed) (Err found) on h = absurd on
  accepted_takes (Err (Reason reason)) (Ok other) on h = absurd on
  accepted_takes (Err (Reason reason)) (Err found) on h =
      stopped (accepted fits q) (Some (Command reason)) found (λ refusal is. inl (sym (same_Some (Command reason) refusal is) ∙ ap (λ (w : Why). Command w) h.1, h.0)) on
  accepted_takes (Err (Certify fault)) (Ok other) on h = absurd on
  accepted_takes (Err (Certify fault)) (Err found) on h = enters (Err found) h.0 (within (Err found) h.1.0 (uncertified_takes fault found h.1.1 on))
  accepted_takes (Err (Overflow number)) s on h = absurd h
  accepted_takes (Err (Limit limit)) (Ok other) on h = absurd on
  accepted_takes (Err (Limit some)) (Err found) on h =
      enters (Err found) h.0 (stopped (limited tt) (Some (Limited some)) found
      (λ refusal is. unless_stops limit checked refusal (ap (option_and_then limit_refusal) h.1 ∙ is)) on)
  accepted_takes (Err Memory) (Ok other) on h = absurd on
  accepted_takes (Err Memory) (Err found) on h = remembered (accepted fits q) None found refl on

-- by refusals that are those of this program
pub other_refusals : (one other : ChangeFault → Option Refusal) (r : Result System ChangeFault) (s : Result System Stop) → ((fault : ChangeFault) → one fault ≡ other fault) → IsHandedOn one r s → IsHandedOn other r s
other_refusals one other (Ok q) (Ok changed) same on = on
other_refusals one other (Ok q) (Err found) same on = on
other_refusals one other (Err fault) (Ok changed) same on = on
other_refusals one other (Err fault) (Err found) same on = subst (λ o. IsStopFor o found) (same fault) on
