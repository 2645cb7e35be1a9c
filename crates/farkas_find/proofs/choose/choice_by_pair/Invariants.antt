use Rattle.std.proofs.Common.{◌≡◌}
use Rattle.std.specs.List.{range_with_len, filter}
use Rattle.farkas_find.specs.Choosing.{first_of, choice_with, is_free}
use Rattle.farkas_find.proofs.Places.{rest_from}
use Rattle.farkas_find.proofs.choose.choice_by_pair.Given as goal

-- the first choice is that of the columns to come
abbrev pub invariant-columns : goal.invariant-columns
invariant-columns l = first_of (choice_with l.rows) (filter (is_free l.kept) (rest_from l.column l.width)) ≡ first_of (choice_with l.rows) (filter (is_free l.kept) (range_with_len 0 l.width))
