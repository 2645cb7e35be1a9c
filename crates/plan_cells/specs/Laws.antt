-- Two instances have one number exactly where they are kept in one cell, and numbers are below the number of cells.
use Rattle.std.specs.Prelude.{◌≡◌, ◌↔◌, ◌<◌, ℕ, ℤ, List, Contains, All}
use Rattle.az_ast.specs.System.{System}
use Rattle.execution.specs.declared.instance.Instance.{Instance}
use Rattle.plan_cells.specs.Answers.{IsKeepable, AreNumbers}
use Rattle.plan_cells.specs.Numbering.{Numbers, HasCell, number_in}
use Rattle.plan_words.specs.Cells.{coordinates_of, AreOneCell}
use Rattle.target_map.specs.Settings.{TargetMapping, IsMapping, IsComplete}

abbrev pub cell_of : TargetMapping → List ℤ → Numbers → Instance → ℕ
cell_of m params numbers u = number_in numbers u.variable (coordinates_of m params u)

pub record AreKeptApart (m : TargetMapping) (params : List ℤ) (us : List Instance) (numbers : Numbers) : Type 0 where
  pub within : (u : Instance) → Contains us u → HasCell numbers u.variable (coordinates_of m params u)
  pub below : (u : Instance) → Contains us u → cell_of m params numbers u < numbers.count
  pub apart : (u v : Instance) → Contains us u → Contains us v → (cell_of m params numbers u ≡ cell_of m params numbers v) ↔ AreOneCell m params u v

abbrev pub CellsAreKeptApart : Type 0
CellsAreKeptApart =
    (p : System) (m : TargetMapping) → IsMapping m → IsComplete p m → (params : List ℤ) (us : List Instance) → All (IsKeepable p params) us →
    (numbers : Numbers) → AreNumbers p m params us numbers → AreKeptApart m params us numbers
