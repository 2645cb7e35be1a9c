-- Visits in memory: of a variable that has both maps, with the rows of its coordinates in time and of its cell.
use Rattle.std.specs.Prelude.{◌≡◌, ◌≤◌, length, Some}
use Rattle.std.specs.FinMap.{get}
use Rattle.az_lin.specs.Substitution.{HasEntryRows}
use Rattle.life_sets.specs.Cells.{cell_map}
use Rattle.life_sets.specs.declared.instance.Instance.{Instance}
use Rattle.order_sets.specs.Rows.{stamp_of}
use Rattle.order_sets.specs.Timed.{IsTimed}
use Rattle.order_sets.specs.Visits.{time_map, time_rows}
use Rattle.order_sets.specs.declared.visit.Visit.{Visit}
use Rattle.target_map.specs.Settings.{TargetMapping}
use Rattle.target_map.specs.declared.storage.Storage.{Storage}

-- the maps take the visit's points
pub record IsStored (m : TargetMapping) (visit : Visit) : Type 0 where
  pub timed : IsTimed m visit
  pub storage : Storage
  pub set : get m.storages visit.variable ≡ Some storage
  pub rows : length visit.at.rows ≡ storage.map.width
  pub narrow : storage.map.width ≤ 64

-- the rows composed for it are in range
pub record FitsVisit (m : TargetMapping) (visit : Visit) : Type 0 where
  pub time : HasEntryRows (time_map m visit)
  pub cell : HasEntryRows (cell_map m visit)

pub record IsInstance (m : TargetMapping) (visit : Visit) (instance : Instance) : Type 0 where
  pub at : instance.visit ≡ visit
  pub time : stamp_of instance.time ≡ time_rows m visit
  pub cell : instance.cell ≡ cell_map m visit
