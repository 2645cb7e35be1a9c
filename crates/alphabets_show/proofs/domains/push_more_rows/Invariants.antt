use Rattle.std.proofs.Common.{◌≡◌, ◌++◌, string_bytes, take}
use Rattle.std.specs.Prelude.{flat_map}
use Rattle.az_text.specs.Lumps.{bytes_of}
use Rattle.az_text.specs.declared.mark.MarkKind.TheVariants.{AndAnd}
use Rattle.alphabets_show.specs.Pieces.{spaced}
use Rattle.alphabets_show.specs.Sides.{comparison}
use Rattle.alphabets_show.proofs.domains.push_more_rows.Given as goal

abbrev pub invariant-loop-row : goal.invariant-loop-row
invariant-loop-row l = string_bytes l.text ≡ string_bytes l.fn.text ++ bytes_of (flat_map (λ row. spaced AndAnd (comparison l.params row)) (take l.row-index l.rows))
