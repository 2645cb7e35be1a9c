use Rattle.std.proofs.Common.{◌≡◌, ◌++◌, List, length, take, map, Some}
use Rattle.std.specs.Prelude.{ℤ}
use Rattle.std.specs.Vec.Iter.{into_iter_items}
use Rattle.table_data.specs.TableOf.{points_of}
use Rattle.table_data.proofs.table.table_of.Given as goal

abbrev pub invariant-values : goal.invariant-values
invariant-values l = record {
  points : l.fn.points ≡ points_of l.rows.items ++ into_iter_items l.points;
  values : map (λ (row : List ℤ × ℤ). Some row.1) l.rows.items ≡ take l.value-index l.values;
  count : length l.rows.items ≡ l.value-index;
}
