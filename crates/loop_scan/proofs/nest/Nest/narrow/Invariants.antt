use Rattle.std.proofs.Common.{◌≡◌, ◌≤◌, map, length}
use Rattle.std.specs.List.{All}
use Rattle.az_lin.specs.Affine.{IsAtLeastZero, Holds}
use Rattle.az_lin.specs.Substitution.{Point}
use Rattle.farkas_find.specs.Remaining.{HaveColumns}
use Rattle.farkas_find.specs.Rows.{affine_of, HasWideRow}
use Rattle.loop_scan.specs.Nest.Nests.{IsNest, Narrows}
use Rattle.loop_scan.proofs.nest.Nest.narrow.Given as goal

abbrev pub invariant-loop-column : goal.invariant-loop-column
invariant-loop-column l = record {
  state : IsNest l.width l.self;
  inside : l.column ≤ l.width;
  widths : HaveColumns l.width l.rows;
  range : All HasWideRow l.rows;
  sound : (y : Point) → length y ≡ l.width → Holds l.system y → All (IsAtLeastZero y) (map affine_of l.rows);
  points : (y : Point) → length y ≡ l.width → Narrows (Holds l.system y) l.initial.self l.self y;
}

abbrev pub decreases-loop-column : goal.decreases-loop-column
decreases-loop-column l = l.column
