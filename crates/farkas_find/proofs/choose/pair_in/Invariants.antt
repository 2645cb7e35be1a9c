use Rattle.std.proofs.Common.{◌≡◌, length}
use Rattle.std.specs.List.{range_with_len}
use Rattle.farkas_find.specs.Choosing.{first_of, pair_at}
use Rattle.farkas_find.proofs.Places.{rest_from}
use Rattle.farkas_find.proofs.choose.pair_in.Given as goal

-- the first pair is that of the places to come
abbrev pub invariant-places : goal.invariant-places
invariant-places l = first_of (pair_at l.column l.rows) (rest_from l.place (length l.rows)) ≡ first_of (pair_at l.column l.rows) (range_with_len 0 (length l.rows))
