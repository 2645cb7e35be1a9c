use Rattle.std.proofs.Common.{◌≡◌, ◌++◌, string_bytes, take, true}
use Rattle.az_text.specs.Lumps.{bytes_of}
use Rattle.alphabets_show.specs.Pieces.{is_empty}
use Rattle.alphabets_show.specs.Sides.{coefficients, terms}
use Rattle.alphabets_show.proofs.sides.push_affine.Given as goal

abbrev pub invariant-loop-column : goal.invariant-loop-column
invariant-loop-column l = record {
  written : string_bytes l.text ≡ string_bytes l.fn.text ++ bytes_of (terms true (coefficients l.params 0 (take l.column l.value-items)));
  none : l.first ≡ is_empty (coefficients l.params 0 (take l.column l.value-items));
}
