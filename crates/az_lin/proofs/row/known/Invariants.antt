use Rattle.std.proofs.Common.{ℕ, ◌<◌, get_or}
use Rattle.az_lin.specs.Affine.{Affine, HasEntries}
use Rattle.az_lin.proofs.row.known.Given as goal

abbrev pub invariant-rows : goal.invariant-rows
invariant-rows l = (k : ℕ) (d : Affine) → k < l.row-index → HasEntries (get_or l.rows k d)
