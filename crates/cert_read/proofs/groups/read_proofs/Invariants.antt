use Rattle.std.proofs.Common.{◌-◌, length, drop, All}
use Rattle.std.specs.List.{flat_map}
use Rattle.cert_read.specs.Inner.Groups.{AreTaken, Begins, GoesOnProof}
use Rattle.cert_text.specs.Lines.{proved_lines, IsSpelledProof}
use Rattle.cert_read.proofs.groups.read_proofs.Given as goal

abbrev pub invariant-proofs : goal.invariant-proofs
invariant-proofs l = record {
  taken : AreTaken l.lines l.from (flat_map (proved_lines l.program) l.proved.items) l.end;
  spelled : All (IsSpelledProof l.program) l.proved.items;
  stops : Begins (GoesOnProof l.proved.items) (drop l.end l.lines) → ⊥;
}

abbrev pub decreases-proofs : goal.decreases-proofs
decreases-proofs l = length l.lines - l.end
