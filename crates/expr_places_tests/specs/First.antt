-- The body of a program's first equation with a map put in.
use Rattle.std.specs.Prelude.{slice_get, MatchOption, Result}
use Rattle.az_lin.specs.Affine.{AffineMap}
use Rattle.az_lin.specs.declared.fault.LinFault.{LinFault}
use Rattle.az_ast.specs.System.{System}
use Rattle.az_ast.specs.Term.{term}
use Rattle.az_ast.specs.declared.expr.Expr.{Expr}
use Rattle.expr_maps.specs.Answers.{IsTerm}
use Rattle.expr_maps.specs.Columns.{HasEntriesIn}
use Rattle.expr_maps.specs.Put.{put}

abbrev pub FirstIsPut : System → AffineMap → Result Expr LinFault → Type 0
FirstIsPut p f answer =
    MatchOption (slice_get p.equations 0) ⊥ (λ equation. IsTerm (put f (term equation.body)) (HasEntriesIn (put f (term equation.body))) answer)
