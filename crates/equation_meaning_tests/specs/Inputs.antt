-- Tables over the domains of inputs.
use Rattle.std.specs.Prelude.{ℕ, ℤ, ◌-◌, List, length, slice_get, MatchOption}
use Rattle.az_ast.specs.Meaning.{RoleGives}
use Rattle.az_ast.specs.Points.{IsMember}
use Rattle.az_ast.specs.System.{System}
use Rattle.az_ast.specs.Tables.{Tables, Rows, TableGives, InputGives}
use Rattle.az_ast.specs.declared.program.Variable.{Variable}

-- a value for each member
abbrev pub IsTableOver : Variable → List ℤ → Rows → Type 0
IsTableOver variable params rows = (k : List ℤ) → IsMember variable.domain params (variable.domain.width - length params) k → (v : ℤ) × TableGives rows k v

-- and for each point of the input with this number
abbrev pub HasInput : System → Tables → List ℤ → ℕ → Type 0
HasInput p tables params x =
    (k : List ℤ) → MatchOption (slice_get p.variables x) (Unit {0}) (λ variable.
    RoleGives variable.role (IsMember variable.domain params (variable.domain.width - length p.params) k → (v : ℤ) × InputGives tables x k v) (Unit {0}))
