use Rattle.std.proofs.Common.{◌≡◌, ◌++◌, drop}
use Rattle.table_data.specs.Written.{output_lines}
use Rattle.table_data.proofs.write.write_outputs.Given as goal

abbrev pub invariant-variables : goal.invariant-variables
invariant-variables l = l.out.items ++ output_lines l.values (drop l.x l.variables) l.x ≡ output_lines l.values l.variables 0
