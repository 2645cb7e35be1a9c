use Rattle.std.proofs.Common.{ℕ, ◌<◌, get_or}
use Rattle.az_lin.specs.Affine.{Polyhedron, HasRowsOver, HasEntryConj}
use Rattle.az_lin.proofs.conj.known_parts.Given as goal

abbrev pub invariant-conjs : goal.invariant-conjs
invariant-conjs l = record {
  widths : (k : ℕ) (d : Polyhedron) → k < l.conj-index → HasRowsOver l.width (get_or l.conjs k d);
  entries : (k : ℕ) (d : Polyhedron) → k < l.conj-index → HasEntryConj (get_or l.conjs k d);
}
