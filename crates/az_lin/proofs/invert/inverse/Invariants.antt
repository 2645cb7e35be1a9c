use Rattle.std.proofs.Common.{◌≡◌, ◌+◌, ◌*◌, ◌++◌, ℕ, length, All}
use Rattle.az_lin.specs.Affine.{HasEntries}
use Rattle.az_lin.specs.Inversion.{inverse_rows}
use Rattle.az_lin.proofs.invert.inverse.Given as goal

abbrev pub invariant-rows : goal.invariant-rows
invariant-rows l = (left : ℕ) → left + l.number ≡ length l.map.rows → record {
  size : length l.rest ≡ left * length l.map.rows;
  whole : l.rows.items ++ inverse_rows l.params l.map.rows left l.rest ≡ inverse_rows l.params l.map.rows (length l.map.rows) l.numbers;
  entries : All HasEntries l.rows.items;
}
