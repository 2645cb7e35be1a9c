-- An equation's answer from that of its body.
use Rattle.std.proofs.Common.{◌≡◌, Option, Some, None, Result, Ok, Err, refl, sym, ap, subst, ◌∙◌}
use Rattle.std.specs.Prelude.{ℕ, IsErrAnd, option_map}
use Rattle.az_lin.specs.declared.fault.LinFault.{LinFault}
use Rattle.az_lin.specs.declared.fault.LinFault.TheVariants.{Entry, NoInverse, Overflow, Memory}
use Rattle.az_ast.specs.Term.{Term, term}
use Rattle.az_ast.specs.declared.expr.Expr.{Expr}
use Rattle.az_ast.specs.declared.program.Equation.{Equation}
use Rattle.expr_maps.specs.Answers.{IsTerm}
use Rattle.rewriting.specs.Definitions.{Definition, definition_of}
use Rattle.rewriting.specs.Equations.{IsEquation}

-- a fault of the body is one of the equation
pub equation-fault : (t : Term) (d : Option Definition) (fits whole : Type 0) (fault : LinFault) (result : Result (Option Equation) LinFault) → (whole → fits) → IsTerm t fits (Err fault) → IsErrAnd result (λ e. e ≡ fault) → IsEquation d whole result
equation-fault t d fits whole fault (Ok made) part is same = absurd same
equation-fault t d fits whole fault (Err e) part is same = subst (λ f. IsEquation d whole (Err f)) (sym same) (by fault is)
  where
    by : (f : LinFault) → IsTerm t fits (Err f) → IsEquation d whole (Err f)
    by Entry is = λ all. is (part all)
    by (NoInverse n) is = is
    by Overflow is = is
    by Memory is = tt

-- and the equation with the body
pub equation-made : (e : Expr) (x : ℕ) (t : Term) (d : Option Definition) (fits : Type 0) → term e ≡ t → d ≡ Some (x, t) → fits → IsEquation d fits (Ok (Some (record { variable = x; body = e })))
equation-made e x t d fits same is fit = (ap (λ u. Some (x, u)) same ∙ sym is, fit)
