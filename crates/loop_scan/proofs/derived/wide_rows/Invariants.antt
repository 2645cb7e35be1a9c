use Rattle.std.proofs.Common.{map}
use Rattle.std.specs.List.{All}
use Rattle.az_lin.specs.Affine.{IsAtLeastZero}
use Rattle.az_lin.specs.Substitution.{Point}
use Rattle.farkas_find.specs.Remaining.{HaveColumns}
use Rattle.farkas_find.specs.Rows.{affine_of, HasWideRow}
use Rattle.loop_scan.proofs.derived.wide_rows.Given as goal

abbrev pub invariant-rows : goal.invariant-rows
invariant-rows l = record {
  widths : HaveColumns l.width l.copies.items;
  range : All HasWideRow l.copies.items;
  sound : (y : Point) → All (IsAtLeastZero y) l.rows → All (IsAtLeastZero y) (map affine_of l.copies.items);
}
