use Rattle.std.proofs.Common.{◌≡◌, take}
use Rattle.quick_rows.proofs.map.quick_rows.Given as goal

abbrev pub invariant-rows : goal.invariant-rows
invariant-rows l = l.quick.items ≡ take l.row-index l.rows
