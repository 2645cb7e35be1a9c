use Rattle.std.proofs.Common.{◌≡◌, ℕ, ◌<◌, ◌++◌, take, drop, get_or}
use Rattle.az_lin.specs.Affine.{Affine, HasEntries}
use Rattle.az_lin.specs.Negation.{negated}
use Rattle.az_poly.specs.Operations.{pieces_from}
use Rattle.az_poly.proofs.difference.minus.Given as goal

-- the pieces made so far and those that are left are the pieces; the negations so far are in range
abbrev pub invariant-cuts : goal.invariant-cuts
invariant-cuts l = record {
  so_far : l.pieces.items ++ pieces_from l.a.width (l.a.rows ++ take l.number l.removed) (drop l.number l.removed) ≡ pieces_from l.a.width l.a.rows l.removed;
  entries : (k : ℕ) → k < l.number → (d : Affine) → HasEntries (negated (get_or l.removed k d));
}
