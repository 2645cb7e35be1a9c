use Rattle.std.proofs.Common.{◌≡◌, take, map}
use Rattle.formula_refute.proofs.lent.LentRows.copies.Given as goal

abbrev pub invariant-copies : goal.invariant-copies
invariant-copies l = l.rows.items ≡ take l.row-index (map (λ row. row.now) l.row-items)
