use Rattle.std.proofs.Common.{ℕ, ◌<◌, slice_index_or}
use Rattle.az_ast.specs.declared.program.Variable.{Variable}
use Rattle.az_ast.specs.Rows.{HasDomainRows}
use Rattle.az_ast.proofs.rows.variable_rows.Given as goal

abbrev pub invariant-variables : goal.invariant-variables
invariant-variables l = (k : ℕ) (d : Variable) → k < l.variable-index → HasDomainRows (slice_index_or l.variables k d)
