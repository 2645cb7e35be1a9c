use Rattle.std.proofs.Common.{◌≡◌, ◌++◌, take}
use Rattle.az_lin.specs.Columns.{unit_rows}
use Rattle.row_columns.proofs.keep.reading.Given as goal

abbrev pub invariant-rows : goal.invariant-rows
invariant-rows l = l.rows.items ≡ unit_rows l.width 0 l.params ++ take l.row-index l.row-items
