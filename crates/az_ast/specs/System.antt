-- A program, as contracts see it.
use Rattle.std.specs.Prelude.{ℕ, List}
use Rattle.az_lin.specs.Affine.{Union}
use Rattle.az_ast.specs.declared.program.Variable.{Variable}
use Rattle.az_ast.specs.declared.program.Equation.{Equation}

pub record System : Type 0 where
  pub name : List ℕ
  pub params : List (List ℕ)
  pub pdom : Union
  pub variables : List Variable
  pub equations : List Equation
