use Rattle.std.proofs.Common.{◌≡◌, ◌++◌}
use Rattle.az_lin.specs.Columns.{unit_rows}
use Rattle.row_columns.proofs.keep.push_unit_rows.Given as goal

abbrev pub invariant-columns : goal.invariant-columns
invariant-columns l = l.rows.items ≡ l.initial.rows.items ++ unit_rows l.width l.columns.place l.number
