-- The answer of a changing call, from those of the calls that it makes.
use Rattle.std.proofs.Common.{◌≡◌, List, Option, Some, None, map, Result, Ok, Err, refl, sym, ap, subst, ◌∙◌}
use Rattle.std.specs.Prelude.{MatchOption, IfOk, IfErr, IsErrAnd}
use Rattle.az_lin.specs.declared.fault.LinFault.{LinFault}
use Rattle.az_lin.specs.declared.fault.LinFault.TheVariants as lin
use Rattle.az_ast.specs.Shapes.{IsProgram, shape_of}
use Rattle.az_ast.specs.Placed.{IsPlaced}
use Rattle.az_ast.specs.System.{System}
use Rattle.az_ast.specs.declared.program.Equation.{Equation}
use Rattle.az_ast.specs.declared.program.Variable.{Variable}
use Rattle.az_ast.specs.declared.reason.Reason.{Reason as Why}
use Rattle.az_ast.specs.declared.reason.Reason.TheVariants as why
use Rattle.rewriting.specs.Answers.{of_rows, Gives, GivesIf, IsRefusedFor, Unless}
use Rattle.rewriting.specs.Definitions.{Definition, definition_of, defining, with_equations, with_parts}
use Rattle.rewriting.specs.Equations.{AreEquations}
use Rattle.rewriting.specs.declared.fault.ChangeFault.{ChangeFault}
use Rattle.rewriting.specs.declared.fault.ChangeFault.TheVariants.{Reason, Certify, Overflow, Limit, Memory}
use Rattle.rewriting.proofs.ExprOf.{definitions-back}
use Rattle.rewriting.proofs.FineParts.{AreFine, placed, shaped}

-- a fault of rows, where the entries are in range or not
abbrev pub IsFaultIf : Type 0 → LinFault → Type 0
IsFaultIf fits lin.Entry = fits → ⊥
IsFaultIf fits (lin.NoInverse _) = ⊥
IsFaultIf fits lin.Overflow = ⊥
IsFaultIf fits lin.Memory = Unit {0}

pub fault-of_equations : (ds : List Definition) (fits whole : Type 0) (fault : LinFault) → (whole → fits) → AreEquations ds fits (Err fault) → IsFaultIf whole fault
fault-of_equations ds fits whole lin.Entry part h = λ all. h (part all)
fault-of_equations ds fits whole (lin.NoInverse n) part h = h
fault-of_equations ds fits whole lin.Overflow part h = h
fault-of_equations ds fits whole lin.Memory part h = tt

pub fault-of_memory : (fits : Type 0) (fault : LinFault) → fault ≡ lin.Memory → IsFaultIf fits fault
fault-of_memory fits fault is = subst (IsFaultIf fits) (sym is) tt

pub refused-rows : (fits : Type 0) (q : System) (fault : LinFault) (r : Result System ChangeFault) → r ≡ Err (of_rows fault) → IsFaultIf fits fault → GivesIf fits q r
refused-rows fits q fault r is h = subst (GivesIf fits q) (sym is) (by fault h)
  where
    by : (f : LinFault) → IsFaultIf fits f → GivesIf fits q (Err (of_rows f))
    by lin.Entry h = (h, refl)
    by (lin.NoInverse n) h = absurd h
    by lin.Overflow h = absurd h
    by lin.Memory h = tt

-- the changed program
pub given : (fits : Type 0) (q other : System) (r : Result System ChangeFault) → other ≡ q → fits → Gives other r → GivesIf fits q r
given fits q other r same fit g = by r (subst (λ s. Gives s r) same g)
  where
    by : (r : Result System ChangeFault) → Gives q r → GivesIf fits q r
    by (Ok changed) g = (fit, g)
    by (Err (Reason reason)) g = absurd g
    by (Err (Certify fault)) g = (fit, g)
    by (Err (Overflow number)) g = absurd g
    by (Err (Limit limit)) g = (fit, g)
    by (Err Memory) g = tt

pub assembled : (p : System) (variables : List Variable) (vs : List Variable) (equations : List Equation) (ds : List Definition) → variables ≡ vs → map definition_of equations ≡ ds → with_equations p variables equations ≡ with_parts p vs ds
assembled p variables vs equations ds same made =
    ap (λ (l : List Variable). with_equations p l equations) same ∙ ap (λ (es : List Equation). with_equations p vs es) (definitions-back equations ds made)

pub assembled-placed : (p : System) → IsProgram p → (variables vs : List Variable) (equations : List Equation) (ds : List Definition) → variables ≡ vs → map definition_of equations ≡ ds → AreFine p vs ds → IsPlaced (with_equations p variables equations)
assembled-placed p program variables vs equations ds same made fine = subst IsPlaced (sym (assembled p variables vs equations ds same made)) (placed p program vs ds fine)

pub assembled-shaped : (p : System) → IsProgram p → (variables vs : List Variable) (equations : List Equation) (ds : List Definition) → variables ≡ vs → map definition_of equations ≡ ds → AreFine p vs ds → shape_of (with_equations p variables equations) ≡ None
assembled-shaped p program variables vs equations ds same made fine = subst (λ s. shape_of s ≡ None) (sym (assembled p variables vs equations ds same made)) (shaped p program vs ds fine)

-- reasons
pub refused : (refusal : Option Why) (answers : Result System ChangeFault → Type 0) (reason : Why) (r : Result System ChangeFault) → refusal ≡ Some reason → r ≡ Err (Reason reason) → Unless refusal answers r
refused refusal answers reason r is same =
    subst (λ s. Unless refusal answers s) (sym same) (subst (λ o. MatchOption o (answers (Err (Reason reason))) (λ why. IsRefusedFor why (Err (Reason reason)))) (sym is) refl)

pub free : (refusal : Option Why) (answers : Result System ChangeFault → Type 0) (r : Result System ChangeFault) → refusal ≡ None → answers r → Unless refusal answers r
free refusal answers r is h = subst (λ o. MatchOption o (answers r) (λ why. IsRefusedFor why r)) (sym is) h

-- want of memory
pub unremembered : (refusal : Option Why) (answers : Result System ChangeFault → Type 0) (r : Result System ChangeFault) → answers (Err Memory) → r ≡ Err Memory → Unless refusal answers r
unremembered refusal answers r h same = subst (λ s. Unless refusal answers s) (sym same) (by refusal)
  where
    by : (o : Option Why) → MatchOption o (answers (Err Memory)) (λ why. IsRefusedFor why (Err Memory))
    by None = h
    by (Some why) = tt

-- what is promised of the stated program is promised of the answer
pub of_given : (fits : Type 0) (q : System) (P : System → Type 0) (r : Result System ChangeFault) → P q → GivesIf fits q r → IfOk r P
of_given fits q P (Ok changed) h g = subst P (sym g.1.0) h
of_given fits q P (Err fault) h g = tt

pub of_unless : (refusal : Option Why) (fits : Type 0) (q : System) (P : System → Type 0) (r : Result System ChangeFault) → (refusal ≡ None → P q) → Unless refusal (GivesIf fits q) r → IfOk r P
of_unless refusal fits q P r h u = by refusal refl u
  where
    by : (o : Option Why) → refusal ≡ o → MatchOption o (GivesIf fits q r) (λ why. IsRefusedFor why r) → IfOk r P
    by None is u = of_given fits q P r (h is) u
    by (Some why) is u = never r u
      where
        never : (r : Result System ChangeFault) → IsRefusedFor why r → IfOk r P
        never (Ok changed) u = absurd u
        never (Err fault) u = tt
