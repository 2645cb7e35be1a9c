use Rattle.std.proofs.Common.{◌≡◌, take}
use Rattle.az_ast.proofs.copy.+copy_of.Given as goal

abbrev pub decreases-copy_of : goal.decreases-copy_of
decreases-copy_of l = goal.size-copy_of l

abbrev pub invariant-loop-branch : goal.invariant-loop-branch
invariant-loop-branch l = l.items ≡ take l.branch-index l.branch-items
