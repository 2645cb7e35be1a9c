-- Certified programs.
--
-- The context of a place in an equation is the list of the domains in force there, innermost first: the
-- enclosing branches and reductions, the variable's domain and the parameter domain. It holds a point if
-- each of them holds as many of the point's first coordinates as it has columns.
--
-- A program is certified if, for all whole numbers, each variable's domain is finite at fixed parameters
-- and each reduction's domain at fixed outer indices; at every point of a case's context exactly one
-- branch holds the point; and every access reads a point of its variable's domain at every point of its
-- context. A set of points is finite if its coordinates are bounded.
use Rattle.std.specs.Prelude.{◌≡◌, ℕ, ◌+◌, ◌-◌, ◌≤◌, ℤ, List, [], ◌∷◌, ◌++◌, length, take, All, unsigned_abs, slice_get, ◌⊎◌, MatchOption}
use Rattle.std.specs.List.{AllByRecursion}
use Rattle.az_lin.specs.Affine.{AffineMap, Union, image_of, HoldsSome}
use Rattle.az_ast.specs.declared.program.Variable.{Variable}
use Rattle.az_ast.specs.declared.program.Equation.{Equation}
use Rattle.az_ast.specs.Points.{IsMember}
use Rattle.az_ast.specs.System.{System}
use Rattle.az_ast.specs.Term.{Term, constant, index, access, negation, binary, cases, reduction, Choices, none, choice, term}

abbrev pub IsInContext : List Union → List ℤ → Type 0
IsInContext context z = AllByRecursion (λ domain. HoldsSome domain (take domain.width z)) context

-- `outer` columns are fixed, and the further ones bounded
abbrev pub IsFinite : Union → ℕ → ℕ → Type 0
IsFinite domain outer extra =
    (z : List ℤ) → length z ≡ outer → (bound : ℕ) × ((k : List ℤ) → IsMember domain z extra k → AllByRecursion (λ c. unsigned_abs c ≤ bound) k)

-- exactly one of the branches holds the point
abbrev pub NoneHolds : Choices → List ℤ → Type 0
NoneHolds none z = Unit {0}
NoneHolds (choice domain e rest) z = (HoldsSome domain z → ⊥) × NoneHolds rest z

abbrev pub OneHolds : Choices → List ℤ → Type 0
OneHolds none z = ⊥
OneHolds (choice domain e rest) z = (HoldsSome domain z × NoneHolds rest z) ⊎ ((HoldsSome domain z → ⊥) × OneHolds rest z)

-- an access reads within the variable's domain
abbrev pub ReadsWithin : System → ℕ → AffineMap → List ℤ → Type 0
ReadsWithin p x f z = MatchOption (slice_get p.variables x) ⊥ (λ variable. HoldsSome variable.domain (take (length p.params) z ++ image_of f z))

-- an expression in a context, over points of so many columns
module _ (p : System) where
  abbrev mutual
    pub IsSound : Term → List Union → ℕ → Type 0
    IsSound (constant c) context width = Unit {0}
    IsSound (index row) context width = Unit {0}
    IsSound (access x f) context width = (z : List ℤ) → length z ≡ width → IsInContext context z → ReadsWithin p x f z
    IsSound (negation e) context width = IsSound e context width
    IsSound (binary op a b) context width = IsSound a context width × IsSound b context width
    IsSound (cases branches) context width =
        ((z : List ℤ) → length z ≡ width → IsInContext context z → OneHolds branches z) × AreSound branches context width
    IsSound (reduction op extra domain e) context width = IsFinite domain width extra × IsSound e (domain ∷ context) (width + extra)

    pub AreSound : Choices → List Union → ℕ → Type 0
    AreSound none context width = Unit {0}
    AreSound (choice domain e rest) context width = IsSound e (domain ∷ context) width × AreSound rest context width

  abbrev pub HasFinitePoints : Variable → Type 0
  HasFinitePoints variable = IsFinite variable.domain (length p.params) (variable.domain.width - length p.params)

  abbrev pub IsSoundEquation : Equation → Type 0
  IsSoundEquation equation =
      MatchOption (slice_get p.variables equation.variable) ⊥ (λ variable.
      IsSound (term equation.body) (variable.domain ∷ p.pdom ∷ []) variable.domain.width)

pub record IsCertified (p : System) : Type 0 where
  pub finite : All (HasFinitePoints p) p.variables
  pub sound : All (IsSoundEquation p) p.equations
