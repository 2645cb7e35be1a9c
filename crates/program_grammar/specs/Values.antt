-- The values that the rules put together.
pub use Rattle.grammar_rules.specs.Sides.{behind, before, pair, Scaled, once, signed}
use Rattle.std.specs.Prelude.{ℕ, Bool, false, if◌then◌else◌, List, [], ◌∷◌, Option, Some, None}
use Rattle.program_grammar.specs.declared.tree.Branch.{Branch}
use Rattle.program_grammar.specs.declared.tree.Chain.{Chain}
use Rattle.program_grammar.specs.declared.tree.Declaration.{Declaration}
use Rattle.program_grammar.specs.declared.tree.Equation.{Equation}
use Rattle.program_grammar.specs.declared.tree.Expr.{Expr}
use Rattle.program_grammar.specs.declared.tree.Expr.TheVariants.{Constant, Index, Access, Binary, Cases, Reduction}
use Rattle.program_grammar.specs.declared.tree.Link.{Link}
use Rattle.program_grammar.specs.declared.tree.Operator.{Operator}
use Rattle.program_grammar.specs.declared.tree.Operator.TheVariants.{Add, Subtract, Multiply}
use Rattle.program_grammar.specs.declared.tree.ProgramText.{ProgramText}
use Rattle.program_grammar.specs.declared.tree.Relation.{Relation}
use Rattle.grammar_rules.specs.declared.term.Term.{Term}

abbrev pub linked : Relation → List Term → Link
linked relation side = record { relation = relation; side = side }

abbrev pub chained : List Term → List Link → Chain
chained first links = record { first = first; links = links }

abbrev pub declared : List ℕ → List (List ℕ) × List (List Chain) → Declaration
declared name domain = record { name = name; indices = domain.0; disjuncts = domain.1 }

-- expressions
abbrev pub constant : Bool → ℕ → Expr
constant negative n = Constant negative n

abbrev pub read_at : List ℕ → Option (List (List Term)) → Expr
read_at name None = Index (signed false (once name) ∷ [])
read_at name (Some rows) = Access name rows

abbrev pub product : Expr → Expr → Expr
product a b = Binary Multiply a b

abbrev pub operator_of : Bool → Operator
operator_of negative = if negative then Subtract else Add

abbrev pub sum : Expr → Bool × Expr → Expr
sum a term = Binary (operator_of term.0) a term.1

abbrev pub call : Operator → Expr × Expr → Expr
call op operands = Binary op operands.0 operands.1

abbrev pub branch : List (List Chain) → Expr → Branch
branch disjuncts body = record { disjuncts = disjuncts; body = body }

-- an expression with a restriction is a case with that one branch
abbrev pub restricted : List (List Chain) → Expr → Expr
restricted disjuncts body = Cases (branch disjuncts body ∷ [])

abbrev pub reduction : Operator → List (List ℕ) × (List Chain × Expr) → Expr
reduction op rest = Reduction op rest.0 rest.1.0 rest.1.1

abbrev pub equation : List ℕ → List (List ℕ) × Expr → Equation
equation variable rest = record { variable = variable; indices = rest.0; body = rest.1 }

abbrev pub Sections : Type 0
Sections = List Declaration × (List Declaration × List Declaration)

-- the name, the parameters with their domain, and the declarations
abbrev pub Header : Type 0
Header = List ℕ × ((List (List ℕ) × List Chain) × Sections)

abbrev pub program : Header → List Equation → ProgramText
program header equations =
    record {
      name = header.0;
      params = header.1.0.0;
      domain = header.1.0.1;
      inputs = header.1.1.0;
      outputs = header.1.1.1.0;
      locals = header.1.1.1.1;
      equations = equations;
    }
