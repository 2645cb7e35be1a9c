use Rattle.std.proofs.Common.{◌≤◌, drop}
use Rattle.std.specs.Prelude.{◌↔◌}
use Rattle.az_ast.specs.Walks.{extra_below}
use Rattle.az_ast.proofs.Walks.{below}
use Rattle.az_ast.proofs.walk.+is_under.Given as goal

abbrev pub decreases-is_under : goal.decreases-is_under
decreases-is_under l = goal.size-is_under l

-- the branches that are left decide
abbrev pub invariant-loop-branch : goal.invariant-loop-branch
invariant-loop-branch l = (extra_below (below (drop l.branch-index l.branch-items)) ≤ l.most) ↔ (extra_below (below l.branch-items) ≤ l.most)
