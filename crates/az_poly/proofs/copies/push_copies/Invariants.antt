use Rattle.std.proofs.Common.{◌≡◌, ◌++◌, take}
use Rattle.az_poly.proofs.copies.push_copies.Given as goal

abbrev pub invariant-copies : goal.invariant-copies
invariant-copies l = l.rows.items ≡ l.initial.rows.items ++ take l.row-index l.from
