use Rattle.std.proofs.Common.{◌≡◌, ◌++◌, take}
use Rattle.farkas_find.specs.Combining.{pairs_of}
use Rattle.farkas_find.proofs.pairs.push_pairs.Given as goal

-- the pairs with the rows so far
abbrev pub invariant-minuses : goal.invariant-minuses
invariant-minuses l = l.pairs.items ≡ l.fn.pairs.items ++ pairs_of (take l.minus-index l.minuses) l.plus
