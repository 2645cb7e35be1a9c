use Rattle.std.proofs.Common.{◌≡◌, length}
use Rattle.std.specs.List.{All}
use Rattle.farkas_find.specs.Rows.{HasWideRow}
use Rattle.farkas_tests.proofs.elimination.wide_rows.Given as goal

abbrev pub invariant-rows : goal.invariant-rows
invariant-rows l = record {
  range : All HasWideRow l.rows.items;
  width : All (λ row. length row.coefs ≡ 3) l.rows.items;
}
