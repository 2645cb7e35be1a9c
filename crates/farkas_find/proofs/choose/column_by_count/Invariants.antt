use Rattle.std.proofs.Common.{◌≡◌, None}
use Rattle.std.specs.List.{range_with_len, filter, fold}
use Rattle.farkas_find.specs.Choosing.{better_of, is_free, count_of_best}
use Rattle.farkas_find.proofs.Places.{rest_from}
use Rattle.farkas_find.proofs.choose.column_by_count.Given as goal

-- from the best so far the columns to come give the best of all
abbrev pub invariant-columns : goal.invariant-columns
invariant-columns l = record {
  best : fold (better_of l.rows) l.best.column (filter (is_free l.kept) (rest_from l.column l.width)) ≡ fold (better_of l.rows) None (filter (is_free l.kept) (range_with_len 0 l.width));
  pairs : l.best.pairs ≡ count_of_best l.best.column l.rows;
}
