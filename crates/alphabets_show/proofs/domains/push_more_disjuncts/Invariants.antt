use Rattle.std.proofs.Common.{◌≡◌, ◌++◌, string_bytes, take}
use Rattle.std.specs.Prelude.{flat_map}
use Rattle.az_text.specs.Lumps.{bytes_of}
use Rattle.az_text.specs.declared.mark.MarkKind.TheVariants.{BarBar}
use Rattle.alphabets_show.specs.Pieces.{spaced}
use Rattle.alphabets_show.specs.Sides.{conjunction}
use Rattle.alphabets_show.proofs.domains.push_more_disjuncts.Given as goal

abbrev pub invariant-loop-conj : goal.invariant-loop-conj
invariant-loop-conj l = string_bytes l.text ≡ string_bytes l.fn.text ++ bytes_of (flat_map (λ conj. spaced BarBar (conjunction l.params conj)) (take l.conj-index l.disjuncts))
