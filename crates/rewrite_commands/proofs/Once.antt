-- Each command is carried out or refused, and not both, and leaves one thing.
use Rattle.std.proofs.Common.{◌≡◌, ℕ, List, [], length, Option, Some, Err, sym, subst, ◌∙◌}
use Rattle.std.specs.Prelude.{option_map}
use Rattle.std.specs.Option.{option_and_then}
use Rattle.az_ast.specs.Shapes.{limit_of}
use Rattle.az_ast.specs.System.{System}
use Rattle.az_ast.specs.declared.reason.Reason.TheVariants.{NoProgram, Unknown, Entry}
use Rattle.az_lin.specs.Affine.{AffineMap}
use Rattle.az_lin.specs.InversionAnswer.{IsInversion}
use Rattle.az_lin.specs.Substitution.{HasEntryRows}
use Rattle.az_lin.specs.declared.fault.LinFault.{LinFault}
use Rattle.az_lin.specs.declared.fault.LinFault.TheVariants as lin
use Rattle.az_lin.specs.declared.fault.NoInverse.TheVariants as evidence
use Rattle.change_basis.specs.Basis.{BasisFits, basis_refusal, rebased}
use Rattle.command_script.specs.Resolved.{meant}
use Rattle.inline_eqs.specs.Inlining.{InliningFits, inlining_refusal, inlined}
use Rattle.inline_eqs.specs.Removal.{removal_refusal, without}
use Rattle.program_commands.proofs.Once.{one_certified, not_both_certified}
use Rattle.program_commands.specs.Programs.{certified}
use Rattle.rewriting.specs.Named.{number_of}
use Rattle.script_grammar.specs.declared.command.MapText.{MapText}
use Rattle.session_state.proofs.Once.{IsOne, NotBoth, one_then, not_both_then, one_answer, not_both_answers, one_of_some, not_both_of_some, one_nothing, not_both_unless, not_both_holds}
use Rattle.session_state.specs.Session.{Session, Carried, opened, changed}
use Rattle.session_state.specs.Steps.{Step, ◌>>=◌, gives, unless, holds_or}
use Rattle.session_state.specs.declared.refusal.Refusal.{Refusal}
use Rattle.session_state.specs.declared.refusal.Refusal.TheVariants.{Command}
use Rattle.session_state.specs.declared.session.Loaded.{Loaded}
use Rattle.rewrite_commands.specs.Changes.{variable, unless_reason, limit_refusal, accepted, names_reason, entry_reason, inversion_refusal, inverse_of, basis_at, rebasing, inlining, removal}
use Rattle.rewrite_commands.specs.Commands.{changing, change_basis, inline, remove_unused}

-- behind a test
module _ {A : Type 0} (cause : Option Refusal) (rest : Unit {0} → Step A) where
  one_unless : IsOne (rest tt) → IsOne (unless cause >>= rest)
  one_unless one = one_then (unless cause) rest (one_nothing (unless cause)) (λ u. one)

  not_both_after : NotBoth (rest tt) → NotBoth (unless cause >>= rest)
  not_both_after apart = not_both_then (unless cause) rest (one_nothing (unless cause)) (not_both_unless cause) (λ u. apart)

-- behind the variable with a name
module _ {A : Type 0} (p : System) (name : List ℕ) (rest : ℕ → Step A) where
  one_named : ((x : ℕ) → IsOne (rest x)) → IsOne (variable p name >>= rest)
  one_named one = one_then (variable p name) rest (one_of_some (Command (Unknown name)) (number_of p name)) one

  not_both_named : ((x : ℕ) → NotBoth (rest x)) → NotBoth (variable p name >>= rest)
  not_both_named apart = not_both_then (variable p name) rest (one_of_some (Command (Unknown name)) (number_of p name)) (not_both_of_some (Command (Unknown name)) (number_of p name)) apart

-- the result of a change
module _ (fits : Type 0) (q : System) where
  abbrev limited : Unit {0} → Step System
  limited _ = unless (option_and_then limit_refusal (limit_of q)) >>= (λ _. certified q)

  one_accepted : IsOne (accepted fits q)
  one_accepted =
      one_then (holds_or (Command Entry) fits) limited (one_nothing (holds_or (Command Entry) fits))
      (λ u. one_unless (option_and_then limit_refusal (limit_of q)) (λ _. certified q) (one_certified q))

  not_both_accepted : NotBoth (accepted fits q)
  not_both_accepted =
      not_both_then (holds_or (Command Entry) fits) limited (one_nothing (holds_or (Command Entry) fits)) (not_both_holds (Command Entry) fits)
      (λ u. not_both_after (option_and_then limit_refusal (limit_of q)) (λ _. certified q) (not_both_certified q))

-- the inverse of a map
module _ (params : ℕ) (f : AffineMap) where
  one_inverse : IsOne (inverse_of params f)
  one_inverse a b h k = h.3 ∙ sym k.3

  not_both_inverse : NotBoth (inverse_of params f)
  not_both_inverse a refusal h (fault, k, is) = by fault k is
    where
      by : (fault : LinFault) → IsInversion params f (Err fault) → inversion_refusal fault ≡ Some refusal → ⊥
      by lin.Entry k is = k.3 (subst HasEntryRows h.3 h.4)
      by (lin.NoInverse (evidence.Kernel vector)) k is = k.1 h.1
      by (lin.NoInverse (evidence.Rational nums den)) k is = k.2 h.2
      by lin.Overflow k is = k h.0
      by lin.Memory k is = cc

-- the changes
module _ (text : MapText) (p : System) (x : ℕ) where
  abbrev basis : AffineMap
  basis = meant p.params text

  abbrev accepts : AffineMap → Step System
  accepts inverse = accepted (BasisFits p x basis inverse) (rebased p x basis inverse)

  abbrev turned : Unit {0} → Step System
  turned _ = inverse_of (length p.params) basis >>= accepts

  abbrev entered : Unit {0} → Step System
  entered _ = unless_reason (entry_reason p.params text) >>= turned

  abbrev sized : Unit {0} → Step System
  sized _ = unless_reason (basis_refusal p x basis) >>= entered

  one_basis : IsOne (basis_at text p x)
  one_basis =
      one_unless (option_map Command (names_reason p.params text)) sized (one_unless (option_map Command (basis_refusal p x basis)) entered
      (one_unless (option_map Command (entry_reason p.params text)) turned
      (one_then (inverse_of (length p.params) basis) accepts (one_inverse (length p.params) basis) (λ inverse. one_accepted (BasisFits p x basis inverse) (rebased p x basis inverse)))))

  not_both_basis : NotBoth (basis_at text p x)
  not_both_basis =
      not_both_after (option_map Command (names_reason p.params text)) sized (not_both_after (option_map Command (basis_refusal p x basis)) entered
      (not_both_after (option_map Command (entry_reason p.params text)) turned
      (not_both_then (inverse_of (length p.params) basis) accepts (one_inverse (length p.params) basis) (not_both_inverse (length p.params) basis)
      (λ inverse. not_both_accepted (BasisFits p x basis inverse) (rebased p x basis inverse)))))

module _ (p : System) (y x : ℕ) where
  abbrev puts : Step System
  puts = accepted (InliningFits p y x) (inlined p y x)

  abbrev puts_in : Step System
  puts_in = unless_reason (inlining_refusal p y x) >>= (λ _. puts)

  one_inlined : IsOne puts_in
  one_inlined = one_unless (option_map Command (inlining_refusal p y x)) (λ _. puts) (one_accepted (InliningFits p y x) (inlined p y x))

  not_both_inlined : NotBoth puts_in
  not_both_inlined = not_both_after (option_map Command (inlining_refusal p y x)) (λ _. puts) (not_both_accepted (InliningFits p y x) (inlined p y x))

module _ (p : System) (x : ℕ) where
  abbrev leaves : Step System
  leaves = accepted (Unit {0}) (without p x)

  abbrev leaves_out : Step System
  leaves_out = unless_reason (removal_refusal p x) >>= (λ _. leaves)

  one_without : IsOne leaves_out
  one_without = one_unless (option_map Command (removal_refusal p x)) (λ _. leaves) (one_accepted (Unit {0}) (without p x))

  not_both_without : NotBoth leaves_out
  not_both_without = not_both_after (option_map Command (removal_refusal p x)) (λ _. leaves) (not_both_accepted (Unit {0}) (without p x))

-- a command that changes the program
module _ (session : Session) (change : System → Step System) (one : (p : System) → IsOne (change p)) where
  abbrev left : Loaded → System → Step Carried
  left loaded q = gives (record { session = Some (changed loaded q); text = [] })

  one_changed : IsOne (changing session change)
  one_changed =
      one_then (opened session) (λ loaded. change loaded.current >>= left loaded) (one_of_some (Command NoProgram) session)
      (λ loaded. one_then (change loaded.current) (left loaded) (one loaded.current) (λ q. one_answer _))

  not_both_changed : ((p : System) → NotBoth (change p)) → NotBoth (changing session change)
  not_both_changed apart =
      not_both_then (opened session) (λ loaded. change loaded.current >>= left loaded) (one_of_some (Command NoProgram) session) (not_both_of_some (Command NoProgram) session)
      (λ loaded. not_both_then (change loaded.current) (left loaded) (one loaded.current) (apart loaded.current) (λ q. not_both_answers _))

module _ (session : Session) where
  one_rebasing : (name : List ℕ) (text : MapText) (p : System) → IsOne (rebasing name text p)
  one_rebasing name text p = one_named p name (λ x. basis_at text p x) (λ x. one_basis text p x)

  pub one_change_basis : (name : List ℕ) (text : MapText) → IsOne (change_basis session name text)
  one_change_basis name text = one_changed session (rebasing name text) (one_rebasing name text)

  pub not_both_change_basis : (name : List ℕ) (text : MapText) → NotBoth (change_basis session name text)
  not_both_change_basis name text =
      not_both_changed session (rebasing name text) (one_rebasing name text) (λ p. not_both_named p name (λ x. basis_at text p x) (λ x. not_both_basis text p x))

  one_inlining : (into target : List ℕ) (p : System) → IsOne (inlining into target p)
  one_inlining into target p = one_named p into (λ y. variable p target >>= (λ x. puts_in p y x)) (λ y. one_named p target (λ x. puts_in p y x) (λ x. one_inlined p y x))

  pub one_inline : (into target : List ℕ) → IsOne (inline session into target)
  one_inline into target = one_changed session (inlining into target) (one_inlining into target)

  pub not_both_inline : (into target : List ℕ) → NotBoth (inline session into target)
  not_both_inline into target =
      not_both_changed session (inlining into target) (one_inlining into target)
      (λ p. not_both_named p into (λ y. variable p target >>= (λ x. puts_in p y x)) (λ y. not_both_named p target (λ x. puts_in p y x) (λ x. not_both_inlined p y x)))

  one_removal : (name : List ℕ) (p : System) → IsOne (removal name p)
  one_removal name p = one_named p name (λ x. leaves_out p x) (λ x. one_without p x)

  pub one_remove_unused : (name : List ℕ) → IsOne (remove_unused session name)
  one_remove_unused name = one_changed session (removal name) (one_removal name)

  pub not_both_remove_unused : (name : List ℕ) → NotBoth (remove_unused session name)
  not_both_remove_unused name = not_both_changed session (removal name) (one_removal name) (λ p. not_both_named p name (λ x. leaves_out p x) (λ x. not_both_without p x))
