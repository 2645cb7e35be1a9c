use Rattle.std.proofs.Common.{◌≡◌, take}
use Rattle.std.specs.List.{flat_map}
use Rattle.farkas_find.specs.Combining.{pairs_of}
use Rattle.farkas_find.proofs.pairs.all_pairs.Given as goal

-- the pairs of the positive rows so far
abbrev pub invariant-pluses : goal.invariant-pluses
invariant-pluses l = l.pairs.items ≡ flat_map (pairs_of l.minuses.items) (take l.plus-index l.plus-items)
