use Rattle.std.proofs.Common.{◌≡◌, ◌++◌, string_bytes, take, []}
use Rattle.std.specs.Prelude.{flat_map, ◌∷◌}
use Rattle.az_text.specs.Lumps.{bytes_of}
use Rattle.alphabets_show.specs.Pieces.{word, comma}
use Rattle.alphabets_show.proofs.names.push_more_names.Given as goal

abbrev pub invariant-loop-name : goal.invariant-loop-name
invariant-loop-name l = string_bytes l.text ≡ string_bytes l.fn.text ++ bytes_of (flat_map (λ name. comma (word name ∷ [])) (take l.name-index l.names))
