-- The program of a text without faults: its names are numbers of variables and columns.
use Rattle.std.specs.Prelude.{ℕ, List, [], ◌∷◌, ◌++◌, length, map}
use Rattle.std.specs.List.{position_or_len}
use Rattle.std.specs.Str.{bytes_eq}
use Rattle.az_ast.specs.declared.expr.Branch.{Branch}
use Rattle.az_ast.specs.declared.expr.Expr.{Expr}
use Rattle.az_ast.specs.declared.expr.Expr.TheVariants as form
use Rattle.az_ast.specs.declared.op.Op.{Op}
use Rattle.az_ast.specs.declared.op.Op.TheVariants as op
use Rattle.az_ast.specs.declared.program.Equation as program
use Rattle.az_ast.specs.declared.program.Role.{Role}
use Rattle.az_ast.specs.declared.program.Role.TheVariants.{Input, Output, Local}
use Rattle.az_ast.specs.declared.program.Variable.{Variable}
use Rattle.az_ast.specs.System.{System}
use Rattle.program_grammar.specs.declared.tree.Declaration.{Declaration}
use Rattle.program_grammar.specs.declared.tree.Equation.{Equation}
use Rattle.program_grammar.specs.declared.tree.Expr as tree
use Rattle.program_grammar.specs.declared.tree.Expr.TheFolds.{fold-Expr}
use Rattle.program_grammar.specs.declared.tree.Expr.TheOpen.{Expr-F, Branch-F}
use Rattle.program_grammar.specs.declared.tree.Operator.{Operator}
use Rattle.program_grammar.specs.declared.tree.Operator.TheVariants.{Add, Subtract, Multiply, Max, Min, And, Or, Xor}
use Rattle.program_grammar.specs.declared.tree.ProgramText.{ProgramText}
use Rattle.program_names.specs.Sides.{Scope, alone, signed, row_of, map_of, union_of}

abbrev pub op_of : Operator → Op
op_of Add = op.Add
op_of Subtract = op.Sub
op_of Multiply = op.Mul
op_of Max = op.Max
op_of Min = op.Min
op_of And = op.And
op_of Or = op.Or
op_of Xor = op.Xor

-- the number of a name: its first place
abbrev pub number_of : List (List ℕ) → List ℕ → ℕ
number_of names name = position_or_len (bytes_eq name) names

-- one layer of an expression, whose parts are resolved in each scope
module _ (variables : List (List ℕ)) where
  abbrev pub expression_of_layer : Expr-F (Scope → Expr) (Scope → Branch) → Scope → Expr
  expression_of_layer (Expr-F.Constant negative n) scope = form.Const (signed negative n)
  expression_of_layer (Expr-F.Index side) scope = form.Index (row_of scope (alone side))
  expression_of_layer (Expr-F.Access name sides) scope = form.Access (number_of variables name) (map_of scope sides)
  expression_of_layer (Expr-F.Negation e) scope = form.Neg (e scope)
  expression_of_layer (Expr-F.Binary op a b) scope = form.Bin (op_of op) (a scope) (b scope)
  expression_of_layer (Expr-F.Cases branches) scope = form.Cases (map (λ branch. branch scope) branches)
  expression_of_layer (Expr-F.Reduction op extra chains e) scope =
      form.Reduce (op_of op) (length extra) (union_of (scope ++ extra) (chains ∷ [])) (e (scope ++ extra))

  abbrev pub branch_of_layer : Branch-F (Scope → Expr) (Scope → Branch) → Scope → Branch
  branch_of_layer branch scope = record { domain = union_of scope branch.disjuncts; body = branch.body scope }

  abbrev pub expression : tree.Expr → Scope → Expr
  expression = fold-Expr (Scope → Expr) (Scope → Branch) expression_of_layer branch_of_layer

-- the variables stand in the order inputs, outputs, locals
abbrev pub declarations : ProgramText → List Declaration
declarations text = text.inputs ++ (text.outputs ++ text.locals)

abbrev pub declared_names : ProgramText → List (List ℕ)
declared_names text = map (λ declaration. declaration.name) (declarations text)

abbrev pub variable_of : Scope → Role → Declaration → Variable
variable_of params role declaration = record {
  name = declaration.name;
  role = role;
  domain = union_of (params ++ declaration.indices) declaration.disjuncts;
}

abbrev pub variables_of : ProgramText → List Variable
variables_of text =
    map (variable_of text.params Input) text.inputs
    ++ (map (variable_of text.params Output) text.outputs ++ map (variable_of text.params Local) text.locals)

abbrev pub equation_of : List (List ℕ) → Scope → Equation → program.Equation
equation_of variables params equation = record {
  variable = number_of variables equation.variable;
  body = expression variables equation.body (params ++ equation.indices);
}

abbrev pub system_of : ProgramText → System
system_of text = record {
  name = text.name;
  params = text.params;
  pdom = union_of text.params (text.domain ∷ []);
  variables = variables_of text;
  equations = map (equation_of (declared_names text) text.params) text.equations;
}
