use Rattle.std.proofs.Common.{◌≡◌, take, map}
use Rattle.az_lin.specs.Columns.{widened}
use Rattle.row_columns.proofs.widen.widened_rows.Given as goal

abbrev pub invariant-rows : goal.invariant-rows
invariant-rows l = l.wide.items ≡ map (λ row. widened l.columns.place l.columns.count row) (take l.row-index l.rows)
