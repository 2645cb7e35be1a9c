-- Changes of a program, test by test: the names that the command has, the reasons of its own, and last whether the
-- result is a program that is certified.
use Rattle.std.specs.Prelude.{◌≡◌, ℕ, List, length, Option, Some, None, option_map, Ok, Err}
use Rattle.std.specs.Option.{option_or, option_and_then}
use Rattle.az_ast.specs.Shapes.{limit_of}
use Rattle.az_ast.specs.System.{System}
use Rattle.az_ast.specs.declared.fault.ShapeFault.{ShapeFault}
use Rattle.az_ast.specs.declared.fault.ShapeFault.TheVariants as shape
use Rattle.az_ast.specs.declared.reason.Reason.{Reason as Why}
use Rattle.az_ast.specs.declared.reason.Reason.TheVariants.{Unknown, Twice, Entry, NoInverse}
use Rattle.az_lin.specs.Affine.{AffineMap}
use Rattle.az_lin.specs.InversionAnswer.{IsInversion}
use Rattle.az_lin.specs.declared.fault.LinFault.{LinFault}
use Rattle.az_lin.specs.declared.fault.LinFault.TheVariants as lin
use Rattle.change_basis.specs.Basis.{BasisFits, basis_refusal, rebased}
use Rattle.command_script.specs.Resolved.{scope_of, sides_of, meant, first_unknown, first_twice, has_row_out}
use Rattle.inline_eqs.specs.Inlining.{InliningFits, inlining_refusal, inlined}
use Rattle.inline_eqs.specs.Removal.{removal_refusal, without}
use Rattle.program_commands.specs.Programs.{certified}
use Rattle.rewriting.specs.Named.{number_of}
use Rattle.script_grammar.specs.declared.command.MapText.{MapText}
use Rattle.session_state.specs.Steps.{Step, ◌>>=◌, some_or, unless, holds_or}
use Rattle.session_state.specs.declared.refusal.Refusal.{Refusal}
use Rattle.session_state.specs.declared.refusal.Refusal.TheVariants.{Command, Overflow, Limited}
use Rattle.session_state.specs.declared.refusal.Spot.TheVariants.{Invert}
use Rattle.session_state.specs.declared.stop.Stop.TheVariants.{Refused, Fault, Memory}

-- the number of the variable with this name
abbrev pub variable : System → List ℕ → Step ℕ
variable p name = some_or (Command (Unknown name)) (number_of p name)

-- there is no reason
abbrev pub unless_reason : Option Why → Step (Unit {0})
unless_reason reason = unless (option_map Command reason)

abbrev pub limit_refusal : ShapeFault → Option Refusal
limit_refusal (shape.Limit limit) = Some (Limited limit)
limit_refusal (shape.Shape kind item) = None
limit_refusal shape.Memory = None

-- the result of a change: its entries are in range, it keeps the limits on programs, and it is certified
abbrev pub accepted : Type 0 → System → Step System
accepted fits q =
    holds_or (Command Entry) fits
    >>= (λ _. unless (option_and_then limit_refusal (limit_of q))
    >>= (λ _. certified q))

-- a map as it is written: the first name in its rows that is no parameter and no index, and then the first index that
-- is a parameter or an earlier index
abbrev pub names_reason : List (List ℕ) → MapText → Option Why
names_reason params text =
    option_or (option_map Unknown (first_unknown (scope_of params text) (sides_of text))) (option_map Twice (first_twice params text.indices))

abbrev pub entry_reason : List (List ℕ) → MapText → Option Why
entry_reason params text = option_map (λ fault. Entry) (has_row_out (scope_of params text) (sides_of text))

-- the inverse of a map
abbrev pub inversion_refusal : LinFault → Option Refusal
inversion_refusal lin.Entry = Some (Command Entry)
inversion_refusal (lin.NoInverse evidence) = Some (Command (NoInverse evidence))
inversion_refusal lin.Overflow = Some (Overflow Invert)
inversion_refusal lin.Memory = None

abbrev pub inverse_of : ℕ → AffineMap → Step AffineMap
inverse_of params f (Ok inverse) = IsInversion params f (Ok inverse)
inverse_of params f (Err (Refused refusal)) = (fault : LinFault) × IsInversion params f (Err fault) × (inversion_refusal fault ≡ Some refusal)
inverse_of params f (Err (Fault call)) = ⊥
inverse_of params f (Err Memory) = ⊥

-- the variable with this number under other coordinates
abbrev pub basis_at : MapText → System → ℕ → Step System
basis_at text p x =
    let basis = meant p.params text in
    unless_reason (names_reason p.params text)
    >>= (λ _. unless_reason (basis_refusal p x basis)
    >>= (λ _. unless_reason (entry_reason p.params text)
    >>= (λ _. inverse_of (length p.params) basis
    >>= (λ inverse. accepted (BasisFits p x basis inverse) (rebased p x basis inverse)))))

abbrev pub rebasing : List ℕ → MapText → System → Step System
rebasing name text p = variable p name >>= (λ x. basis_at text p x)

-- a local's body put in where another equation reads it
abbrev pub inlining : List ℕ → List ℕ → System → Step System
inlining into target p =
    variable p into
    >>= (λ y. variable p target
    >>= (λ x. unless_reason (inlining_refusal p y x)
    >>= (λ _. accepted (InliningFits p y x) (inlined p y x))))

-- a local that no other equation reads, left out
abbrev pub removal : List ℕ → System → Step System
removal name p =
    variable p name
    >>= (λ x. unless_reason (removal_refusal p x)
    >>= (λ _. accepted (Unit {0}) (without p x)))
