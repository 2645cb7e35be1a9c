-- Rows of their place's width. Each row of an expression, of a map and of a disjunct has a coefficient for
-- each column of its place and entries within range, each domain has a disjunct, and a constant is a
-- 64-bit word.
use Rattle.std.specs.Prelude.{◌≡◌, ℕ, ◌+◌, ◌<◌, List, length, All, slice_get, MatchOption}
use Rattle.az_lin.specs.Affine.{Affine, AffineMap, Polyhedron, Union, HasWidth, HasEntries}
use Rattle.az_ast.specs.declared.program.Equation.{Equation}
use Rattle.az_ast.specs.declared.program.Variable.{Variable}
use Rattle.az_ast.specs.Operators.{IsWord}
use Rattle.az_ast.specs.System.{System}
use Rattle.az_ast.specs.Term.{Term, constant, index, access, negation, binary, cases, reduction, Choices, none, choice, term}

abbrev pub IsRowAt : ℕ → Affine → Type 0
IsRowAt width row = HasWidth width row × HasEntries row

pub record IsMapAt (width : ℕ) (f : AffineMap) : Type 0 where
  pub columns : f.width ≡ width
  pub rows : All (IsRowAt width) f.rows

pub record IsConjAt (width : ℕ) (conj : Polyhedron) : Type 0 where
  pub columns : conj.width ≡ width
  pub rows : All (IsRowAt width) conj.rows

pub record IsDomainAt (width : ℕ) (domain : Union) : Type 0 where
  pub columns : domain.width ≡ width
  pub some : 0 < length domain.disjuncts
  pub disjuncts : All (IsConjAt width) domain.disjuncts

abbrev mutual
  pub HasRowsAt : Term → ℕ → Type 0
  HasRowsAt (constant c) width = IsWord c
  HasRowsAt (index row) width = IsRowAt width row
  HasRowsAt (access x f) width = IsMapAt width f
  HasRowsAt (negation e) width = HasRowsAt e width
  HasRowsAt (binary op a b) width = HasRowsAt a width × HasRowsAt b width
  HasRowsAt (cases branches) width = HaveRowsAt branches width
  HasRowsAt (reduction op extra domain e) width = IsDomainAt (width + extra) domain × HasRowsAt e (width + extra)

  pub HaveRowsAt : Choices → ℕ → Type 0
  HaveRowsAt none width = Unit {0}
  HaveRowsAt (choice domain e rest) width = IsDomainAt width domain × HasRowsAt e width × HaveRowsAt rest width

-- a body at the columns of its variable's domain
abbrev pub HasBodyRows : List Variable → Equation → Type 0
HasBodyRows variables equation =
    MatchOption (slice_get variables equation.variable) ⊥ (λ variable. HasRowsAt (term equation.body) variable.domain.width)

abbrev pub HasDomainRows : Variable → Type 0
HasDomainRows variable = IsDomainAt variable.domain.width variable.domain

pub record HasRows (p : System) : Type 0 where
  pub parameters : IsDomainAt (length p.params) p.pdom
  pub domains : All HasDomainRows p.variables
  pub bodies : All (HasBodyRows p.variables) p.equations
