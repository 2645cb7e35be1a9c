-- A fault of what is made of an expression is the expression's.
use Rattle.std.proofs.Common.{◌≡◌, Result, Ok, Err, sym, subst}
use Rattle.std.specs.Prelude.{IsErrAnd}
use Rattle.az_lin.specs.Answers.{IsExactly}
use Rattle.az_lin.specs.declared.fault.LinFault.{LinFault}
use Rattle.az_lin.specs.declared.fault.LinFault.TheVariants.{Entry, NoInverse, Overflow, Memory}
use Rattle.az_ast.specs.Term.{Term}
use Rattle.az_ast.specs.declared.expr.Expr.{Expr}
use Rattle.expr_maps.specs.Answers.{IsTerm}

pub part-fault : {A : Type 0} (Fits : A → Type 0) (value : A) (t : Term) (whole : Type 0) (fault : LinFault) (result : Result Expr LinFault) → (whole → Fits value)
    → IsExactly Fits value (Err fault) → IsErrAnd result (λ e. e ≡ fault) → IsTerm t whole result
part-fault Fits value t whole fault (Ok made) part is same = absurd same
part-fault Fits value t whole fault (Err e) part is same = subst (λ f. IsTerm t whole (Err f)) (sym same) (by fault is)
  where
    by : (f : LinFault) → IsExactly Fits value (Err f) → IsTerm t whole (Err f)
    by Entry is = λ all. is (part all)
    by (NoInverse n) is = is
    by Overflow is = is
    by Memory is = tt
