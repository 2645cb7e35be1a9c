use Rattle.std.proofs.Common.{◌≡◌, drop}
use Rattle.std.specs.Prelude.{◌+ℤ◌}
use Rattle.side_rows.specs.Columns.{column_of}
use Rattle.side_rows.specs.Sides.{sum_of}
use Rattle.side_rows.specs.Totals.{IsTotal, total_of}
use Rattle.side_rows.proofs.total.sum.Given as goal

-- what there is so far, and the terms that are left
abbrev pub invariant-terms : goal.invariant-terms
invariant-terms l = record {
  rest : total_of l.total +ℤ sum_of (column_of l.column) (drop l.term-index l.side) ≡ sum_of (column_of l.column) l.side;
  parts : IsTotal l.term-index l.total;
}
