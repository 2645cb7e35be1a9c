use Rattle.std.proofs.Common.{◌≡◌, ◌++◌, ◌+◌, ◌-◌, ◌≤◌, string_bytes}
use Rattle.az_text.specs.Lumps.{bytes_of}
use Rattle.alphabets_show.specs.Pieces.{names as listed}
use Rattle.alphabets_show.specs.Sides.{indices}
use Rattle.alphabets_show.proofs.names.push_indices.Given as goal

abbrev pub invariant-loop-index : goal.invariant-loop-index
invariant-loop-index l = record {
  counted : l.fn.from + 1 ≤ l.index-counter;
  written : string_bytes l.text ≡ string_bytes l.fn.text ++ bytes_of (listed (indices l.fn.from (l.index-counter - l.fn.from)));
}
