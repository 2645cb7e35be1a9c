use Rattle.std.proofs.Common.{◌≡◌, ◌++◌, take}
use Rattle.table_data.specs.Written.{lines_of}
use Rattle.table_data.proofs.write.push_table.Given as goal

abbrev pub invariant-rows : goal.invariant-rows
invariant-rows l = l.out.items ≡ l.fn.out.items ++ lines_of l.name (take l.row-index l.row-items)
