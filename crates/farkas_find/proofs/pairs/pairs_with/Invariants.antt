use Rattle.std.proofs.Common.{◌≡◌, ◌++◌, length, map}
use Rattle.std.specs.List.{filter, range_with_len}
use Rattle.farkas_find.specs.Combining.{partner, is_other}
use Rattle.farkas_find.proofs.Places.{rest_from}
use Rattle.farkas_find.proofs.pairs.pairs_with.Given as goal

-- the pairs so far, and those of the places to come
abbrev pub invariant-places : goal.invariant-places
invariant-places l = l.pairs.items ++ map (partner l.column l.chosen l.rows) (filter (is_other l.column l.chosen l.rows) (rest_from l.place (length l.rows)))
    ≡ map (partner l.column l.chosen l.rows) (filter (is_other l.column l.chosen l.rows) (range_with_len 0 (length l.rows)))
