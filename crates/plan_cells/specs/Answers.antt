-- What numbering answers: the numbers, or a refusal that stands.
use Rattle.std.specs.Prelude.{◌≡◌, ℕ, ◌<◌, ◌≤◌, ◌⊎◌, ℤ, List, ◌++◌, length, All, Contains, Some, slice_get, Result, Ok, Err}
use Rattle.az_lin.specs.Affine.{IsCoordinate}
use Rattle.az_lin.specs.declared.limit.Limit.TheVariants.{Cells, Coordinate}
use Rattle.az_ast.specs.System.{System}
use Rattle.execution.specs.declared.instance.Instance.{Instance}
use Rattle.loop_scan.specs.declared.fault.ScanFault.{ScanFault}
use Rattle.loop_scan.specs.declared.fault.ScanFault.TheVariants.{Limit, Memory}
use Rattle.plan_cells.specs.Numbering.{Numbers, home_of, taken, most_cells}
use Rattle.target_map.specs.Settings.{TargetMapping, is_written, width_of}
use Rattle.target_map.specs.Times.{cell_at}

-- an output or local at a point that fits it
pub record IsKeepable (p : System) (params : List ℤ) (u : Instance) : Type 0 where
  pub written : is_written p u.variable
  pub width : length (params ++ u.point) ≡ width_of p u.variable
  pub narrow : length (params ++ u.point) ≤ 64
  pub range : All IsCoordinate (params ++ u.point)

module _ (p : System) (m : TargetMapping) (params : List ℤ) (us : List Instance) where
  pub record AreNumbers (numbers : Numbers) : Type 0 where
    pub long : length numbers.homes ≡ length p.variables
    pub homes : (x : ℕ) → x < length p.variables → slice_get numbers.homes x ≡ Some (home_of m params us x)
    pub count : numbers.count ≡ taken m params us (length p.variables)
    pub few : numbers.count ≤ most_cells

  -- a coordinate of a cell past the limit of a coordinate, or more cells than there may be
  abbrev pub IsFar : Type 0
  IsFar = (u : Instance) × Contains us u × (All IsCoordinate (cell_at m u.variable (params ++ u.point)) → ⊥)

  abbrev pub RefusesNumbers : ScanFault → Type 0
  RefusesNumbers fault =
      (fault ≡ Memory) ⊎ (((fault ≡ Limit Coordinate) × IsFar) ⊎ ((fault ≡ Limit Cells) × (most_cells < taken m params us (length p.variables))))

  abbrev pub NumbersAnswer : Result Numbers ScanFault → Type 0
  NumbersAnswer (Ok numbers) = AreNumbers numbers
  NumbersAnswer (Err fault) = RefusesNumbers fault
