-- The answers of the changing calls, as those of the steps.
use Rattle.std.proofs.Common.{◌≡◌, ℕ, ◌≤◌, List, [], length, Option, Some, Result, Ok, Err, refl, ap, subst, ◌∙◌}
use Rattle.az_ast.specs.System.{System}
use Rattle.az_lin.specs.Affine.{AffineMap}
use Rattle.az_lin.specs.InversionAnswer.{IsInversion}
use Rattle.az_lin.specs.declared.fault.LinFault.{LinFault}
use Rattle.az_lin.specs.declared.fault.LinFault.TheVariants as lin
use Rattle.change_basis.specs.Basis.{BasisFits, rebased, FromInverse, Rebases}
use Rattle.inline_eqs.specs.Inlining.{InliningFits, inlining_refusal, inlined}
use Rattle.inline_eqs.specs.Removal.{removal_refusal, without}
use Rattle.rewriting.specs.Answers.{GivesIf, Unless, of_rows}
use Rattle.rewriting.specs.Named.{ForNamed}
use Rattle.rewriting.specs.declared.fault.ChangeFault.{ChangeFault}
use Rattle.session_state.proofs.Taking.{stops_first, goes_on}
use Rattle.session_state.specs.Session.{Carried, opened, changed, carried}
use Rattle.session_state.specs.Steps.{Step, ◌>>=◌, TakesAlone, IsStopFor, gives}
use Rattle.session_state.specs.declared.refusal.Refusal.{Refusal}
use Rattle.session_state.specs.declared.session.Loaded.{Loaded}
use Rattle.session_state.specs.declared.stop.Stop.{Stop}
use Rattle.rewrite_commands.specs.Changes.{variable, unless_reason, accepted, inversion_refusal, inverse_of, inlining, removal}
use Rattle.rewrite_commands.specs.Commands.{changing}
use Rattle.rewrite_commands.specs.Inner.{change_refusal, change_before}
use Rattle.rewrite_commands.proofs.HandedOn.{IsHandedOn, stopped, reason_takes, named_takes, accepted_takes, other_refusals}
use Rattle.rewrite_commands.proofs.Names.{same_refusals, rebased_names, removed_refusals, reason_before, memory_before, found_before}

-- a local's body put in: variables keep their numbers
pub inlining_takes : (p : System) (into target : List ℕ) (r : Result System ChangeFault) (s : Result System Stop) → IsHandedOn (change_refusal p) r s
    → ForNamed p into (λ y. ForNamed p target (λ x. Unless (inlining_refusal p y x) (GivesIf (InliningFits p y x) (inlined p y x)))) r
    → TakesAlone (inlining into target p) s
inlining_takes p into target r s on h =
    named_takes (change_refusal p) (λ why. refl) refl p into (λ y. ForNamed p target (λ x. Unless (inlining_refusal p y x) (GivesIf (InliningFits p y x) (inlined p y x))))
    (λ y. variable p target >>= (λ x. unless_reason (inlining_refusal p y x) >>= (λ _. accepted (InliningFits p y x) (inlined p y x)))) r s on h
    (λ y is_y at_y. named_takes (change_refusal p) (λ why. refl) refl p target (λ x. Unless (inlining_refusal p y x) (GivesIf (InliningFits p y x) (inlined p y x)))
    (λ x. unless_reason (inlining_refusal p y x) >>= (λ _. accepted (InliningFits p y x) (inlined p y x))) r s on at_y
    (λ x is_x at_x. reason_takes (change_refusal p) (λ why. refl) refl (inlining_refusal p y x) (GivesIf (InliningFits p y x) (inlined p y x))
    (λ _. accepted (InliningFits p y x) (inlined p y x)) r s on at_x
    (λ g. accepted_takes (InliningFits p y x) (inlined p y x) r s (other_refusals (change_refusal p) (change_refusal (inlined p y x)) r s (same_refusals p (inlined p y x) (λ n. refl)) on) g)))

-- a local left out: a fault has the numbers before
pub removal_takes : (p : System) → length p.variables ≤ 256 → (name : List ℕ) (r : Result System ChangeFault) (s : Result System Stop)
    → IsHandedOn (λ fault. change_refusal p (change_before p name fault)) r s
    → ForNamed p name (λ x. Unless (removal_refusal p x) (GivesIf (Unit {0}) (without p x))) r
    → TakesAlone (removal name p) s
removal_takes p few name r s on h =
    named_takes before (reason_before p name) (memory_before p name) p name (λ x. Unless (removal_refusal p x) (GivesIf (Unit {0}) (without p x)))
    (λ x. unless_reason (removal_refusal p x) >>= (λ _. accepted (Unit {0}) (without p x))) r s on h
    (λ x is at. reason_takes before (reason_before p name) (memory_before p name) (removal_refusal p x) (GivesIf (Unit {0}) (without p x))
    (λ _. accepted (Unit {0}) (without p x)) r s on at
    (λ g. accepted_takes (Unit {0}) (without p x) r s
    (other_refusals before (change_refusal (without p x)) r s (λ fault. ap (change_refusal p) (found_before p name x fault is) ∙ removed_refusals p few x fault) on) g))
  where
    before : ChangeFault → Option Refusal
    before fault = change_refusal p (change_before p name fault)

-- a local under other coordinates
module _ (p : System) (x : ℕ) (basis : AffineMap) (r : Result System ChangeFault) (s : Result System Stop) (on : IsHandedOn (change_refusal p) r s) where
  abbrev inverted : AffineMap → Step System
  inverted inverse = accepted (BasisFits p x basis inverse) (rebased p x basis inverse)

  pub inverse_takes : Rebases p x basis r → TakesAlone (inverse_of (length p.params) basis >>= inverted) s
  inverse_takes (inversion, is, from) = by inversion is from
    where
      same : (fault : LinFault) → change_refusal p (of_rows fault) ≡ inversion_refusal fault
      same lin.Entry = refl
      same (lin.NoInverse evidence) = refl
      same lin.Overflow = refl
      same lin.Memory = refl

      refused : (fault : LinFault) (s : Result System Stop) → IsHandedOn (change_refusal p) (Err (of_rows fault)) s → IsInversion (length p.params) basis (Err fault)
          → TakesAlone (inverse_of (length p.params) basis >>= inverted) s
      refused fault (Ok q) on is = absurd on
      refused fault (Err why) on is =
          stops_first (λ call. ⊥) (inverse_of (length p.params) basis) inverted why
          (stopped (inverse_of (length p.params) basis) (inversion_refusal fault) why (λ refusal said. (fault, is, said)) (subst (λ o. IsStopFor o why) (same fault) on))

      by : (inversion : Result AffineMap LinFault) → IsInversion (length p.params) basis inversion → FromInverse p x basis inversion r → TakesAlone (inverse_of (length p.params) basis >>= inverted) s
      by (Ok inverse) is g =
          goes_on (λ call. ⊥) (inverse_of (length p.params) basis) inverted inverse s is
          (accepted_takes (BasisFits p x basis inverse) (rebased p x basis inverse) r s
          (other_refusals (change_refusal p) (change_refusal (rebased p x basis inverse)) r s (same_refusals p (rebased p x basis inverse) (rebased_names p x basis inverse)) on) g)
      by (Err fault) is same_result = refused fault s (subst (λ t. IsHandedOn (change_refusal p) t s) same_result on) is

-- a command that changes the program
module _ (loaded : Loaded) (change : System → Step System) where
  abbrev left : System → Step Carried
  left q = gives (record { session = Some (changed loaded q); text = [] })

  abbrev after : Loaded → Step Carried
  after l = change l.current >>= (λ q. gives (record { session = Some (changed l q); text = [] }))

  pub changing_takes : (q : System) (now : Loaded) (text : List ℕ) → change loaded.current (Ok q) → now ≡ changed loaded q → text ≡ [] → TakesAlone (changing (Some loaded) change) (carried (Some now) (Ok text))
  changing_takes q now text made is said =
      goes_on (λ call. ⊥) (opened (Some loaded)) after loaded (carried (Some now) (Ok text)) refl
      (goes_on (λ call. ⊥) (change loaded.current) left q (carried (Some now) (Ok text)) made
      (ap (λ (l : Loaded). Ok (record { session = Some l; text = text })) is ∙ ap (λ (t : List ℕ). Ok (record { session = Some (changed loaded q); text = t })) said))

  pub changing_stops : (why : Stop) → TakesAlone (change loaded.current) (Err why) → TakesAlone (changing (Some loaded) change) (Err why)
  changing_stops why h =
      goes_on (λ call. ⊥) (opened (Some loaded)) after loaded (Err why) refl (stops_first (λ call. ⊥) (change loaded.current) left why h)
