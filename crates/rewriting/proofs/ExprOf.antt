-- The expression with given data has this data, and an expression is the one with its data.
use Rattle.std.proofs.Common.{◌≡◌, ◌∙◌, List, [], ◌∷◌, map, refl, sym, ap, ap₂}
use Rattle.az_ast.proofs.SameTerms.{term-injective}
use Rattle.az_ast.proofs.Terms.{term-Const, term-Index, term-Access, term-Neg, term-Bin, term-Cases, term-Reduce}
use Rattle.az_ast.specs.Term.{Term, constant, index, access, negation, binary, cases, reduction, Choices, none, choice, choices, term}
use Rattle.az_ast.specs.declared.expr.Branch.{Branch}
use Rattle.az_ast.specs.declared.expr.Expr.{Expr}
use Rattle.az_ast.specs.declared.program.Equation.{Equation}
use Rattle.rewriting.specs.Definitions.{expr_of, branches_of, Definition, definition_of, defining}

mutual
  pub term-expr_of : (t : Term) → term (expr_of t) ≡ t
  term-expr_of (constant c) = term-Const c
  term-expr_of (index row) = term-Index row
  term-expr_of (access x f) = term-Access x f
  term-expr_of (negation e) = term-Neg (expr_of e) ∙ ap negation (term-expr_of e)
  term-expr_of (binary op a b) = term-Bin op (expr_of a) (expr_of b) ∙ ap₂ (binary op) (term-expr_of a) (term-expr_of b)
  term-expr_of (cases branches) = term-Cases (branches_of branches) ∙ ap cases (below-branches_of branches)
  term-expr_of (reduction op extra domain e) = term-Reduce op extra domain (expr_of e) ∙ ap (reduction op extra domain) (term-expr_of e)

  below-branches_of : (branches : Choices) → choices (map (λ (b : Branch). (b.domain, term b.body)) (branches_of branches)) ≡ branches
  below-branches_of none = refl
  below-branches_of (choice domain e rest) = ap₂ (choice domain) (term-expr_of e) (below-branches_of rest)

pub expr_of-term : (e : Expr) → expr_of (term e) ≡ e
expr_of-term e = term-injective (expr_of (term e)) e (term-expr_of (term e))

pub definition_of-defining : (d : Definition) → definition_of (defining d) ≡ d
definition_of-defining d = ap (λ t. (d.0, t)) (term-expr_of d.1)

pub defining-definition_of : (equation : Equation) → defining (definition_of equation) ≡ equation
defining-definition_of equation = ap (λ e. record { variable = equation.variable; body = e }) (expr_of-term equation.body)

-- lists of them
pub definitions-back : (equations : List Equation) (ds : List Definition) → map definition_of equations ≡ ds → equations ≡ map defining ds
definitions-back equations ds same = sym (back equations) ∙ ap (map defining) same
  where
    back : (equations : List Equation) → map defining (map definition_of equations) ≡ equations
    back [] = refl
    back (equation ∷ rest) = ap₂ (λ (e : Equation) (es : List Equation). e ∷ es) (defining-definition_of equation) (back rest)

pub definitions-there : (ds : List Definition) → map definition_of (map defining ds) ≡ ds
definitions-there [] = refl
definitions-there (d ∷ ds) = ap₂ (λ (e : Definition) (es : List Definition). e ∷ es) (definition_of-defining d) (definitions-there ds)
