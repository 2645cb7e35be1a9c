use Rattle.std.proofs.Common.{◌≡◌, take}
use Rattle.az_ast.proofs.table.copied_rows.Given as goal

abbrev pub invariant-rows : goal.invariant-rows
invariant-rows l = l.copies.items ≡ take l.row-index l.rows
