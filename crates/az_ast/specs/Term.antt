-- Expressions as plain data, on which definitions go by cases and proofs by induction. `term` gives
-- the data of an expression; it forgets nothing.
use Rattle.std.specs.Prelude.{ℕ, ℤ, List, [], ◌∷◌}
use Rattle.az_lin.specs.Affine.{Affine, AffineMap, Union}
use Rattle.az_ast.specs.declared.op.Op.{Op}
use Rattle.az_ast.specs.declared.expr.Expr.{Expr}
use Rattle.az_ast.specs.declared.expr.Expr.TheFolds.{fold-Expr}
use Rattle.az_ast.specs.declared.expr.Expr.TheOpen.{Expr-F, Branch-F}

mutual
  pub data Term : Type 0 where
    constant : ℤ → Term
    index : Affine → Term
    access : ℕ → AffineMap → Term
    negation : Term → Term
    binary : Op → Term → Term → Term
    cases : Choices → Term
    reduction : Op → ℕ → Union → Term → Term

  pub data Choices : Type 0 where
    none : Choices
    choice : Union → Term → Choices → Choices

abbrev pub choices : List (Union × Term) → Choices
choices [] = none
choices (branch ∷ rest) = choice branch.0 branch.1 (choices rest)

-- one layer of an expression, and of a branch, whose parts are data already
abbrev pub term_of_layer : Expr-F Term (Union × Term) → Term
term_of_layer (Expr-F.Const v) = constant v
term_of_layer (Expr-F.Index row) = index row
term_of_layer (Expr-F.Access variable f) = access variable f
term_of_layer (Expr-F.Neg e) = negation e
term_of_layer (Expr-F.Bin op a b) = binary op a b
term_of_layer (Expr-F.Cases branches) = cases (choices branches)
term_of_layer (Expr-F.Reduce op extra domain e) = reduction op extra domain e

abbrev pub branch_of_layer : Branch-F Term (Union × Term) → Union × Term
branch_of_layer branch = (branch.domain, branch.body)

abbrev pub term : Expr → Term
term = fold-Expr Term (Union × Term) term_of_layer branch_of_layer
