use Rattle.std.proofs.Common.{◌≡◌, ◌++◌, take}
use Rattle.az_ast.specs.OutputRows.{fields}
use Rattle.table_data.proofs.write.push_row.Given as goal

abbrev pub invariant-indices : goal.invariant-indices
invariant-indices l = l.out.items ≡ l.fn.out.items ++ (l.name ++ fields (take l.index-index l.point))
