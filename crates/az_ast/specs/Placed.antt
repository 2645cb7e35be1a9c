-- Parts that may be put together: each row, map and domain has the columns of its place.
--
-- The columns of a place in an equation are the parameters, the variable's indices, and the extra indices
-- of the enclosing reductions; a reduction's domain has its own extra indices too. Variables stand in the
-- order inputs, outputs, locals, and each number of a variable names one. A parameter domain and the
-- domain of a reduction have one disjunct.
use Rattle.std.specs.Prelude.{◌≡◌, ℕ, ◌+◌, ◌<◌, ◌≤◌, List, [], ◌∷◌, length, All, slice_get, MatchOption}
use Rattle.std.specs.List.{AllByRecursion}
use Rattle.az_lin.specs.Affine.{Union}
use Rattle.az_ast.specs.declared.program.Equation.{Equation}
use Rattle.az_ast.specs.declared.program.Role.{Role}
use Rattle.az_ast.specs.declared.program.Role.TheVariants.{Input, Output, Local}
use Rattle.az_ast.specs.declared.program.Variable.{Variable}
use Rattle.az_ast.specs.System.{System}
use Rattle.az_ast.specs.Term.{Term, constant, index, access, negation, binary, cases, reduction, Choices, none, choice, term}

abbrev pub rank : Role → ℕ
rank Input = 0
rank Output = 1
rank Local = 2

abbrev pub AreInOrder : List Variable → Type 0
AreInOrder [] = Unit {0}
AreInOrder (variable ∷ rest) = AllByRecursion (λ later. rank variable.role ≤ rank later.role) rest × AreInOrder rest

abbrev pub IsConjunction : Union → Type 0
IsConjunction domain = length domain.disjuncts ≡ 1

-- an expression at a place of so many columns, in a program of so many variables
module _ (count : ℕ) where
  abbrev mutual
    pub IsAtWidth : Term → ℕ → Type 0
    IsAtWidth (constant c) width = Unit {0}
    IsAtWidth (index row) width = length row.coefs ≡ width
    IsAtWidth (access x f) width = (x < count) × (f.width ≡ width)
    IsAtWidth (negation e) width = IsAtWidth e width
    IsAtWidth (binary op a b) width = IsAtWidth a width × IsAtWidth b width
    IsAtWidth (cases branches) width = AreAtWidth branches width
    IsAtWidth (reduction op extra domain e) width =
        (domain.width ≡ width + extra) × IsConjunction domain × IsAtWidth e (width + extra)

    pub AreAtWidth : Choices → ℕ → Type 0
    AreAtWidth none width = Unit {0}
    AreAtWidth (choice domain e rest) width = (domain.width ≡ width) × IsAtWidth e width × AreAtWidth rest width

-- the equation of a declared variable, at the columns of its domain
abbrev pub IsEquationPlaced : List Variable → Equation → Type 0
IsEquationPlaced variables equation =
    MatchOption (slice_get variables equation.variable) ⊥ (λ variable.
    IsAtWidth (length variables) (term equation.body) variable.domain.width)

pub record IsPlaced (p : System) : Type 0 where
  pub parameters : p.pdom.width ≡ length p.params
  pub parameters_plain : IsConjunction p.pdom
  pub order : AreInOrder p.variables
  pub domains : All (λ variable. length p.params ≤ variable.domain.width) p.variables
  pub bodies : All (IsEquationPlaced p.variables) p.equations
