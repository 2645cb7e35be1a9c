use Rattle.std.proofs.Common.{◌≡◌, ◌+◌, ◌↔◌, ℕ, length}
use Rattle.az_lin.specs.Inversion.{HasSize, reduced, ReducesWide}
use Rattle.az_lin.proofs.tableau.Tableau.reduce.Given as goal

abbrev pub invariant-columns : goal.invariant-columns
invariant-columns l = record {
  size : HasSize (length l.tableau.pivots + length l.tableau.rest) l.tableau;
  left : (left : ℕ) → left + l.column ≡ length l.fn.self.rest → (reduced left l.tableau ≡ reduced (length l.fn.self.rest) l.fn.self) × (ReducesWide left l.tableau ↔ ReducesWide (length l.fn.self.rest) l.fn.self);
}
