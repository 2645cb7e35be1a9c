-- What numbering needs and answers on its way.
use Rattle.std.specs.Prelude.{◌≡◌, ℕ, ◌+◌, ◌≤◌, ◌<◌, ◌^◌, ◌⊎◌, nat_lt, if◌then◌else◌, ℤ, ◌≤ℤ◌, List, length, map, Some}
use Rattle.std.specs.List.{range_with_len}
use Rattle.std.specs.FinMap.{get}
use Rattle.az_lin.specs.Affine.{IsCoordinate}
use Rattle.az_lin.specs.declared.limit.Limit.TheVariants.{Coordinate}
use Rattle.execution.specs.declared.instance.Instance.{Instance}
use Rattle.loop_scan.specs.declared.fault.ScanFault.{ScanFault}
use Rattle.loop_scan.specs.declared.fault.ScanFault.TheVariants.{Limit, Memory}
use Rattle.plan_cells.specs.Numbering.{volume, taken, home_of, most_cells}
use Rattle.plan_cells.specs.declared.numbers.Home.{Home}
use Rattle.plan_cells.specs.declared.range.Range.{Range}
use Rattle.target_map.specs.Settings.{TargetMapping}
use Rattle.target_map.specs.declared.storage.Storage.{Storage}

-- a range that is narrow enough for its size to be a word
pub record IsNarrow (range : Range) : Type 0 where
  pub least : IsCoordinate range.least
  pub greatest : IsCoordinate range.greatest
  pub order : range.least ≤ℤ range.greatest

-- a number counted up to one more than there may be
abbrev pub capped : ℕ → ℕ
capped n = if nat_lt most_cells n then most_cells + 1 else n

abbrev pub IsHomeBelow : Home → Type 0
IsHomeBelow home = home.base + volume home.sides ≤ 2 ^ 20

-- a coordinate is past its limit, or there is no memory
abbrev pub IsFault : Type 0 → ScanFault → Type 0
IsFault Far fault = (fault ≡ Memory) ⊎ ((fault ≡ Limit Coordinate) × Far)

-- the map to the cells of the variable, and how many factors it has
pub record IsStored (m : TargetMapping) (x : ℕ) (width : ℕ) : Type 0 where
  pub storage : Storage
  pub found : get m.storages x ≡ Some storage
  pub columns : storage.map.width ≡ width
  pub factors : length storage.factors ≡ length storage.map.rows

pub record HasCoordinate (m : TargetMapping) (x : ℕ) (width number : ℕ) : Type 0 where
  pub stored : IsStored m x width
  pub within : number < length stored.storage.map.rows

-- the first variables are numbered
pub record AreTaken (m : TargetMapping) (params : List ℤ) (us : List Instance) (x : ℕ) (homes : List Home) (count : ℕ) : Type 0 where
  pub are : homes ≡ map (home_of m params us) (range_with_len 0 x)
  pub total : count ≡ taken m params us x
  pub few : count ≤ most_cells
