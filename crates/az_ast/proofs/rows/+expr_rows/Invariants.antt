use Rattle.std.proofs.Common.{ℕ, ◌<◌, slice_index_or}
use Rattle.az_ast.specs.declared.expr.Branch.{Branch}
use Rattle.az_ast.proofs.RowLaws.{KeepsBranch}
use Rattle.az_ast.proofs.rows.+expr_rows.Given as goal

abbrev pub invariant-loop-branch : goal.invariant-loop-branch
invariant-loop-branch l = (k : ℕ) (d : Branch) → k < l.branch-index → KeepsBranch (slice_index_or l.branch-items k d)
