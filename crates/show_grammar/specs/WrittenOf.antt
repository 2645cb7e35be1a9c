-- A program as its shown text has it, with names for its variables and columns.
use Rattle.std.specs.Prelude.{ℕ, ◌+◌, Bool, true, false, if◌then◌else◌, List, [], ◌∷◌, length, map, flat_map, None, ℤ, pos, negsuc, unsigned_abs}
use Rattle.az_lin.specs.Affine.{Affine, Polyhedron, Union}
use Rattle.az_ast.specs.declared.op.Op.{Op}
use Rattle.az_ast.specs.declared.op.Op.TheVariants as op
use Rattle.az_ast.specs.declared.program.Equation as program
use Rattle.az_ast.specs.declared.program.Role.{Role}
use Rattle.az_ast.specs.declared.program.Role.TheVariants.{Input, Output, Local}
use Rattle.az_ast.specs.declared.program.Variable.{Variable}
use Rattle.az_ast.specs.Shapes.{indices as number_of_indices}
use Rattle.az_ast.specs.System.{System}
use Rattle.az_ast.specs.Term as ast
use Rattle.az_ast.specs.Term.{constant, index, access, negation, binary, cases, reduction, Choices, none, choice, term}
use Rattle.alphabets_show.specs.Sides.{Names, indices, Summand, summands}
use Rattle.alphabets_show.specs.Expressions.{name_of}
use Rattle.alphabets_show.specs.Shown.{has_role, count_of}
use Rattle.grammar_rules.specs.declared.term.Term.{Term}
use Rattle.program_grammar.specs.declared.tree.Branch.{Branch}
use Rattle.program_grammar.specs.declared.tree.Chain.{Chain}
use Rattle.program_grammar.specs.declared.tree.Declaration.{Declaration}
use Rattle.program_grammar.specs.declared.tree.Equation.{Equation}
use Rattle.program_grammar.specs.declared.tree.Expr.{Expr}
use Rattle.program_grammar.specs.declared.tree.Expr.TheVariants.{Constant, Index, Access, Negation, Binary, Cases, Reduction}
use Rattle.program_grammar.specs.declared.tree.Operator.{Operator}
use Rattle.program_grammar.specs.declared.tree.Operator.TheVariants.{Add, Subtract, Multiply, Max, Min, And, Or, Xor}
use Rattle.program_grammar.specs.declared.tree.ProgramText.{ProgramText}
use Rattle.program_grammar.specs.declared.tree.Relation.TheVariants.{AtLeast}

-- sides
abbrev pub is_negative : ℤ → Bool
is_negative (pos n) = false
is_negative (negsuc n) = true

abbrev pub term_of : Summand → Term
term_of t = record { negative = is_negative t.0; factor = unsigned_abs t.0; name = t.1 }

abbrev pub zero_side : List Term
zero_side = record { negative = false; factor = 0; name = None } ∷ []

abbrev pub side_of : List Summand → List Term
side_of [] = zero_side
side_of (t ∷ rest) = term_of t ∷ map term_of rest

abbrev pub row_of : Names → Affine → List Term
row_of params row = side_of (summands params row)

-- domains
abbrev pub chain_of : Names → Affine → Chain
chain_of params row = record { first = row_of params row; links = record { relation = AtLeast; side = zero_side } ∷ [] }

abbrev pub chains_of : Names → Polyhedron → List Chain
chains_of params conj = map (chain_of params) conj.rows

abbrev pub disjuncts_of : Names → Union → List (List Chain)
disjuncts_of params domain = map (chains_of params) domain.disjuncts

-- of a domain of one disjunct
abbrev pub only_chains : Names → List Polyhedron → List Chain
only_chains params [] = []
only_chains params (conj ∷ rest) = chains_of params conj

-- expressions
abbrev pub operator_of : Op → Operator
operator_of op.Add = Add
operator_of op.Sub = Subtract
operator_of op.Mul = Multiply
operator_of op.And = And
operator_of op.Or = Or
operator_of op.Xor = Xor
operator_of op.Max = Max
operator_of op.Min = Min

module _ (params : Names) (variables : List Variable) where
  abbrev mutual
    pub expression_of : ast.Term → ℕ → Expr
    expression_of (constant c) count = Constant (is_negative c) (unsigned_abs c)
    expression_of (index row) count = Index (row_of params row)
    expression_of (access x f) count = Access (name_of variables x) (map (row_of params) f.rows)
    expression_of (negation e) count = Negation (expression_of e count)
    expression_of (binary op a b) count = Binary (operator_of op) (expression_of a count) (expression_of b count)
    expression_of (cases branches) count = Cases (branches_of branches count)
    expression_of (reduction op extra domain e) count =
        Reduction (operator_of op) (indices count extra) (only_chains params domain.disjuncts) (expression_of e (count + extra))

    pub branches_of : Choices → ℕ → List Branch
    branches_of none count = []
    branches_of (choice domain e rest) count = record { disjuncts = disjuncts_of params domain; body = expression_of e count } ∷ branches_of rest count

  abbrev pub equation_of : program.Equation → Equation
  equation_of e =
      let brought = count_of params variables e.variable in
      record { variable = name_of variables e.variable; indices = indices 0 brought; body = expression_of (term e.body) brought }

-- the program
abbrev pub declaration_of : Names → Variable → Declaration
declaration_of params variable = record {
  name = variable.name;
  indices = indices 0 (number_of_indices (length params) variable);
  disjuncts = disjuncts_of params variable.domain;
}

abbrev pub declarations_of : Names → Role → List Variable → List Declaration
declarations_of params role variables = flat_map (λ variable. if has_role role variable then declaration_of params variable ∷ [] else []) variables

abbrev pub written_of : System → ProgramText
written_of p = record {
  name = p.name;
  params = p.params;
  domain = only_chains p.params p.pdom.disjuncts;
  inputs = declarations_of p.params Input p.variables;
  outputs = declarations_of p.params Output p.variables;
  locals = declarations_of p.params Local p.variables;
  equations = map (equation_of p.params p.variables) p.equations;
}
