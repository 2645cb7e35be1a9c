use Rattle.std.proofs.Common.{◌≡◌, map}
use Rattle.std.specs.List.{range_with_len}
use Rattle.farkas_find.specs.Tidying.{stays}
use Rattle.farkas_find.proofs.duplicates.flags_by_pairs.Given as goal

-- the flags of the places so far
abbrev pub invariant-places : goal.invariant-places
invariant-places l = l.flags.items ≡ map (stays l.rows) (range_with_len 0 l.place)
