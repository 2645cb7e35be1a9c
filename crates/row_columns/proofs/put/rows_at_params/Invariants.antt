use Rattle.std.proofs.Common.{◌≡◌, take, map, All}
use Rattle.az_lin.specs.Affine.{HasEntries}
use Rattle.az_lin.specs.Columns.{at_params}
use Rattle.row_columns.proofs.put.rows_at_params.Given as goal

abbrev pub invariant-rows : goal.invariant-rows
invariant-rows l = record {
  so_far : l.put.items ≡ map (λ row. at_params l.params row) (take l.row-index l.rows);
  entries : All HasEntries l.put.items;
}
