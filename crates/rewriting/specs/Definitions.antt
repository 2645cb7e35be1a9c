-- Programs with other variables and equations. An equation is given by the number of its variable and the data of
-- its body; each data is that of one expression.
use Rattle.std.specs.Prelude.{ℕ, List, [], ◌∷◌, map, Option, option_map, find, ◌==◌}
use Rattle.az_ast.specs.System.{System}
use Rattle.az_ast.specs.Term.{Term, constant, index, access, negation, binary, cases, reduction, Choices, none, choice, term}
use Rattle.az_ast.specs.declared.expr.Branch.{Branch}
use Rattle.az_ast.specs.declared.expr.Expr.{Expr}
use Rattle.az_ast.specs.declared.expr.Expr.TheVariants.{Const, Index, Access, Neg, Bin, Cases, Reduce}
use Rattle.az_ast.specs.declared.program.Equation.{Equation}
use Rattle.az_ast.specs.declared.program.Variable.{Variable}

-- the expression with this data
abbrev mutual
  pub expr_of : Term → Expr
  expr_of (constant c) = Const c
  expr_of (index row) = Index row
  expr_of (access x f) = Access x f
  expr_of (negation e) = Neg (expr_of e)
  expr_of (binary op a b) = Bin op (expr_of a) (expr_of b)
  expr_of (cases branches) = Cases (branches_of branches)
  expr_of (reduction op extra domain e) = Reduce op extra domain (expr_of e)

  pub branches_of : Choices → List Branch
  branches_of none = []
  branches_of (choice domain e rest) = record { domain = domain; body = expr_of e } ∷ branches_of rest

abbrev pub Definition : Type 0
Definition = ℕ × Term

abbrev pub definition_of : Equation → Definition
definition_of equation = (equation.variable, term equation.body)

abbrev pub defining : Definition → Equation
defining d = record { variable = d.0; body = expr_of d.1 }

abbrev pub definitions : System → List Definition
definitions p = map definition_of p.equations

-- what a variable is defined by: the first that is there for its number
abbrev pub defined_as : List Definition → ℕ → Option Term
defined_as ds x = option_map (λ (d : Definition). d.1) (find (λ (d : Definition). d.0 == x) ds)

-- the program with other variables and equations, under its name and with its parameters
abbrev pub with_equations : System → List Variable → List Equation → System
with_equations p variables equations =
    record { name = p.name; params = p.params; pdom = p.pdom; variables = variables; equations = equations }

abbrev pub with_parts : System → List Variable → List Definition → System
with_parts p variables defined = with_equations p variables (map defining defined)
