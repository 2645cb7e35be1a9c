-- The places of an equation: its cases, reductions and accesses in pre-order, numbered from 0, each with
-- the domains in force there.
--
-- The domains stand from outside to inside: the parameter domain, the variable's domain, and those of the
-- enclosing branches and reductions. The columns of a place are as many as its point has coordinates; the
-- body of a reduction has those of the reduction's domain.
use Rattle.std.specs.Prelude.{ℕ, List, [], ◌∷◌, ◌++◌, slice_get}
use Rattle.std.specs.Option.{option_map_or}
use Rattle.az_lin.specs.Affine.{AffineMap, Union}
use Rattle.az_ast.specs.System.{System}
use Rattle.az_ast.specs.Term.{Term, constant, index, access, negation, binary, cases, reduction, Choices, none, choice, term}
use Rattle.az_ast.specs.Walks.{branch_domains}
use Rattle.az_ast.specs.declared.program.Equation.{Equation}
use Rattle.az_ast.specs.declared.program.Variable.{Variable}
use Rattle.expr_places.specs.declared.scope.Scope.{Scope}

-- a case by the domains of its branches, a reduction by the number of its own indices and its domain, an
-- access by the variable's number and the map to the indices read
pub data Part : Type 0 where
  case_over : List Union → Part
  reduction_over : ℕ → Union → Part
  access_to : ℕ → AffineMap → Part

pub record Place : Type 0 where
  pub part : Part
  pub scope : Scope

abbrev pub under_branch : Scope → Union → Scope
under_branch scope domain = record scope { domains = scope.domains ++ domain ∷ [] }

abbrev pub under_reduction : Scope → Union → Scope
under_reduction scope domain =
    record { domains = scope.domains ++ domain ∷ []; reductions = scope.reductions ++ domain ∷ []; width = domain.width }

abbrev mutual
  pub places : Term → Scope → List Place
  places (constant c) scope = []
  places (index row) scope = []
  places (access x f) scope = record { part = access_to x f; scope = scope } ∷ []
  places (negation e) scope = places e scope
  places (binary op a b) scope = places a scope ++ places b scope
  places (cases branches) scope = record { part = case_over (branch_domains branches); scope = scope } ∷ places_below branches scope
  places (reduction op extra domain e) scope =
      record { part = reduction_over extra domain; scope = scope } ∷ places e (under_reduction scope domain)

  pub places_below : Choices → Scope → List Place
  places_below none scope = []
  places_below (choice domain e rest) scope = places e (under_branch scope domain) ++ places_below rest scope

-- what is in force in the whole body of a variable's equation
abbrev pub body_scope : System → Variable → Scope
body_scope p variable = record { domains = p.pdom ∷ variable.domain ∷ []; reductions = []; width = variable.domain.width }

abbrev pub places_of : System → Equation → List Place
places_of p equation =
    option_map_or (λ variable. places (term equation.body) (body_scope p variable)) (slice_get p.variables equation.variable) []
