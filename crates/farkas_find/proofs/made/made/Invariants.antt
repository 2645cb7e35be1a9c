use Rattle.std.proofs.Common.{◌≡◌, ◌++◌, ◌+◌, take, map}
use Rattle.std.specs.List.{All}
use Rattle.farkas_find.specs.Combining.{FitsAt, combined_at, step_at, numbered_from}
use Rattle.farkas_find.proofs.made.made.Given as goal

-- the rows and the steps of the pairs so far, which are in range
abbrev pub invariant-pairs : goal.invariant-pairs
invariant-pairs l = record {
  fits : All (FitsAt l.column l.rows) (take l.pair-index l.pairs);
  made : l.made.items ≡ numbered_from l.next (map (combined_at l.column l.rows) (take l.pair-index l.pairs));
  steps : l.steps.items ≡ l.fn.steps.items ++ map (step_at l.column l.rows) (take l.pair-index l.pairs);
  number : l.number ≡ l.next + l.pair-index;
}
