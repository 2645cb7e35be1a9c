use Rattle.std.proofs.Common.{◌≡◌, length}
use Rattle.std.specs.Prelude.{All}
use Rattle.az_lin.specs.Affine.{HasWidth}
use Rattle.mapping_commands.proofs.maps.zero_map.Given as goal

abbrev pub invariant-rows : goal.invariant-rows
invariant-rows l = record {
  widths : All (HasWidth (length l.zeros)) l.rows.items;
  count : length l.rows.items ≡ l.number;
}
