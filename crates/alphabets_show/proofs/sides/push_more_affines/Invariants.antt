use Rattle.std.proofs.Common.{◌≡◌, ◌++◌, string_bytes, take}
use Rattle.std.specs.Prelude.{flat_map}
use Rattle.az_text.specs.Lumps.{bytes_of}
use Rattle.alphabets_show.specs.Pieces.{comma}
use Rattle.alphabets_show.specs.Sides.{affine}
use Rattle.alphabets_show.proofs.sides.push_more_affines.Given as goal

abbrev pub invariant-loop-row : goal.invariant-loop-row
invariant-loop-row l = string_bytes l.text ≡ string_bytes l.fn.text ++ bytes_of (flat_map (λ row. comma (affine l.params row)) (take l.row-index l.rows))
