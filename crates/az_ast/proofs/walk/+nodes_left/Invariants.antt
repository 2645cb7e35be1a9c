use Rattle.std.proofs.Common.{◌≡◌, ◌≤◌, ◌+◌, ◌-◌, drop}
use Rattle.az_ast.specs.Nodes.{nodes_below}
use Rattle.az_ast.proofs.Walks.{below}
use Rattle.az_ast.proofs.walk.+nodes_left.Given as goal

abbrev pub decreases-nodes_left : goal.decreases-nodes_left
decreases-nodes_left l = goal.size-nodes_left l

-- what is left now and what it was at first, with the nodes of the branches that are left and of all
abbrev pub invariant-loop-branch : goal.invariant-loop-branch
invariant-loop-branch l = (1 ≤ l.fn.most) × (nodes_below (below (drop l.branch-index l.branch-items)) + (l.fn.most - 1) ≡ nodes_below (below l.branch-items) + l.left)
