use Rattle.std.proofs.Common.{◌≡◌, map, ◌-ℤ◌, slice_index_or, pos}
use Rattle.std.specs.List.{range_with_len}
use Rattle.row_columns.proofs.apart.apart_by.Given as goal

abbrev pub invariant-columns : goal.invariant-columns
invariant-columns l = l.coefs.items ≡ map (λ column. slice_index_or l.left.coefs column (pos 0) -ℤ slice_index_or l.right.coefs column (pos 0)) (range_with_len 0 l.column)
