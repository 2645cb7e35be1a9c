-- The rows of a program's outputs: for each output in order of declaration, a line for each row of its table.
use Rattle.std.specs.Prelude.{ℕ, suc, ◌-◌, ℤ, List, [], ◌∷◌, ◌++◌, length, All, Option, Some, None, MatchOption, slice_get}
use Rattle.std.specs.List.{flat_map}
use Rattle.std.specs.FinMap.{get}
use Rattle.az_ast.specs.declared.program.Role.{Role}
use Rattle.az_ast.specs.declared.program.Role.TheVariants.{Input, Output, Local}
use Rattle.az_ast.specs.declared.program.Variable.{Variable}
use Rattle.az_ast.specs.Meaning.{Means}
use Rattle.az_ast.specs.OutputRows.{row_of}
use Rattle.az_ast.specs.Points.{AreMembers}
use Rattle.az_ast.specs.System.{System}
use Rattle.az_ast.specs.Tables.{Rows, Tables}
use Rattle.table_data.specs.TableOf.{points_of}

abbrev pub lines_of : List ℕ → Rows → List ℕ
lines_of name rows = flat_map (λ row. row_of name row.0 row.1) rows

abbrev pub rows_at : Option Rows → Rows
rows_at None = []
rows_at (Some rows) = rows

abbrev pub role_lines : Role → List ℕ → List ℕ
role_lines Input lines = []
role_lines Output lines = lines
role_lines Local lines = []

-- the lines of the variables from number `x` on
abbrev pub output_lines : Tables → List Variable → ℕ → List ℕ
output_lines values [] x = []
output_lines values (variable ∷ variables) x =
    role_lines variable.role (lines_of variable.name (rows_at (get values x))) ++ output_lines values variables (suc x)

abbrev pub IfOutput : Role → Type 0 → Type 0
IfOutput Input claim = Unit {0}
IfOutput Output claim = claim
IfOutput Local claim = Unit {0}

-- the table of each output has its meanings at its points
pub record HasMeanings (p : System) (inputs : Tables) (params : List ℤ) (x : ℕ) (variable : Variable) (rows : Rows) : Type 0 where
  pub points : AreMembers variable.domain params (variable.domain.width - length p.params) (points_of rows)
  pub values : All (λ row. Means p inputs params x row.0 row.1) rows

abbrev pub TablesMean : System → Tables → List ℤ → Tables → Type 0
TablesMean p inputs params values =
    (x : ℕ) → MatchOption (slice_get p.variables x) (Unit {0}) (λ variable.
    IfOutput variable.role (HasMeanings p inputs params x variable (rows_at (get values x))))
