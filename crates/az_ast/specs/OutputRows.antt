-- The rows of a program's outputs: for each output in order of declaration and each point of its domain
-- in lexicographic order, the line `NAME,index,..,value` with the meaning at the point. Parameters are
-- not printed.
use Rattle.std.specs.Prelude.{◌≡◌, ℕ, suc, ◌-◌, ℤ, List, [], ◌∷◌, ◌++◌, length}
use Rattle.std.specs.Fmt.{signed_decimal}
use Rattle.az_ast.specs.declared.program.Role.{Role}
use Rattle.az_ast.specs.declared.program.Role.TheVariants.{Input, Output, Local}
use Rattle.az_ast.specs.declared.program.Variable.{Variable}
use Rattle.az_ast.specs.Meaning.{Means}
use Rattle.az_ast.specs.Points.{AreMembers}
use Rattle.az_ast.specs.System.{System}
use Rattle.az_ast.specs.Tables.{Tables}

-- each number behind a comma, and the line of one point
abbrev pub fields : List ℤ → List ℕ
fields [] = []
fields (c ∷ k) = 44 ∷ (signed_decimal c ++ fields k)

abbrev pub row_of : List ℕ → List ℤ → ℤ → List ℕ
row_of name k v = name ++ (fields (k ++ v ∷ []) ++ 10 ∷ [])

module _ (p : System) (tables : Tables) (params : List ℤ) where
  -- the lines of variable `x`, called `name`, at the given points
  abbrev pub ArePointRows : ℕ → List ℕ → List (List ℤ) → List ℕ → Type 0
  ArePointRows x name [] bytes = bytes ≡ []
  ArePointRows x name (k ∷ points) bytes =
      (v : ℤ) × (rest : List ℕ) × Means p tables params x k v × (bytes ≡ row_of name k v ++ rest) × ArePointRows x name points rest

  -- the lines of one variable: none if it is no output
  pub record AreLines (x : ℕ) (variable : Variable) (bytes : List ℕ) : Type 0 where
    pub points : List (List ℤ)
    pub members : AreMembers variable.domain params (variable.domain.width - length p.params) points
    pub rows : ArePointRows x variable.name points bytes

  abbrev pub RoleLines : Role → ℕ → Variable → List ℕ → Type 0
  RoleLines Input x variable bytes = bytes ≡ []
  RoleLines Output x variable bytes = AreLines x variable bytes
  RoleLines Local x variable bytes = bytes ≡ []

  -- the lines of the variables from number `x` on
  abbrev pub AreRowsFrom : List Variable → ℕ → List ℕ → Type 0
  AreRowsFrom [] x bytes = bytes ≡ []
  AreRowsFrom (variable ∷ rest) x bytes =
      (lines : List ℕ) × (more : List ℕ) × RoleLines variable.role x variable lines × AreRowsFrom rest (suc x) more × (bytes ≡ lines ++ more)

abbrev pub AreOutputRows : System → Tables → List ℤ → List ℕ → Type 0
AreOutputRows p tables params bytes = AreRowsFrom p tables params p.variables 0 bytes
