use Rattle.std.proofs.Common.{map, take}
use Rattle.std.specs.List.{flat_map}
use Rattle.farkas_find.specs.Rows.{affine_of}
use Rattle.loop_scan.specs.Boxes.{lower_bound, upper_bound}
use Rattle.loop_scan.specs.Nest.Indices.{IsGreatestOf, IsLeastOf}
use Rattle.loop_scan.proofs.index_range.best_bounds.Given as goal

abbrev pub invariant-rows : goal.invariant-rows
invariant-rows l = record {
  low : IsGreatestOf (flat_map (lower_bound l.column) (map affine_of (take l.row-index l.rows))) l.low;
  high : IsLeastOf (flat_map (upper_bound l.column) (map affine_of (take l.row-index l.rows))) l.high;
}
