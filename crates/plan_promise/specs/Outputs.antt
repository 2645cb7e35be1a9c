-- The values of the outputs, read from the words of their cells.
use Rattle.std.specs.Prelude.{◌≡◌, ℕ, ℤ, pos, ◌-◌, List, length, map, All, slice_get, get_or, None, MatchOption}
use Rattle.std.specs.FinMap.{get}
use Rattle.az_ast.specs.Points.{AreMembers}
use Rattle.az_ast.specs.Tables.{Tables, Rows}
use Rattle.az_ast.specs.declared.program.Role.{Role}
use Rattle.az_ast.specs.declared.program.Role.TheVariants.{Input, Output, Local}
use Rattle.az_ast.specs.declared.program.Variable.{Variable}
use Rattle.execution.specs.Plans.{Work, Plan, Stands}
use Rattle.execution.specs.Setting.{Setting}
use Rattle.execution.specs.declared.instance.Instance.{Instance}
use Rattle.execution.specs.declared.place.Place.{Place}

-- the word of the cell where the instance is stored
abbrev pub IsWordOf : Plan → List ℤ → Instance → ℤ → Type 0
IsWordOf plan cells u v = (q : Place) × (w : Work) × Stands plan q w × (w.instance ≡ u) × (v ≡ get_or cells w.cell (pos 0))

module _ (g : Setting) (plan : Plan) (cells : List ℤ) where
  -- a row for each point of the variable's domain
  pub record AreWordRows (x : ℕ) (variable : Variable) (rows : Rows) : Type 0 where
    pub points : AreMembers variable.domain g.params (variable.domain.width - length g.program.params) (map (λ row. row.0) rows)
    pub words : All (λ row. IsWordOf plan cells (record { variable = x; point = row.0 }) row.1) rows

  abbrev pub RoleWords : Role → ℕ → Variable → Tables → Type 0
  RoleWords Input x variable values = get values x ≡ None
  RoleWords Output x variable values = MatchOption (get values x) ⊥ (AreWordRows x variable)
  RoleWords Local x variable values = get values x ≡ None

  abbrev pub AreOutputWords : Tables → Type 0
  AreOutputWords values = (x : ℕ) → MatchOption (slice_get g.program.variables x) (get values x ≡ None) (λ variable. RoleWords variable.role x variable values)
