use Rattle.std.proofs.Common.{ℕ, ◌<◌, slice_index_or}
use Rattle.az_ast.specs.declared.program.Equation.{Equation}
use Rattle.az_ast.specs.Rows.{HasBodyRows}
use Rattle.az_ast.proofs.rows.equation_rows.Given as goal

abbrev pub invariant-equations : goal.invariant-equations
invariant-equations l = (k : ℕ) (d : Equation) → k < l.equation-index → HasBodyRows l.variables (slice_index_or l.equations k d)
