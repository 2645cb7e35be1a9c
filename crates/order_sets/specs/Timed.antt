-- A visit of a variable whose space-time map takes the visit's points.
use Rattle.std.specs.Prelude.{◌≡◌, ◌≤◌, length, Some}
use Rattle.std.specs.FinMap.{get}
use Rattle.az_lin.specs.Affine.{AffineMap}
use Rattle.order_sets.specs.declared.visit.Visit.{Visit}
use Rattle.target_map.specs.Settings.{TargetMapping}

pub record IsTimed (m : TargetMapping) (visit : Visit) : Type 0 where
  pub map : AffineMap
  pub set : get m.times visit.variable ≡ Some map
  pub rows : length visit.at.rows ≡ map.width
  pub narrow : map.width ≤ 64
