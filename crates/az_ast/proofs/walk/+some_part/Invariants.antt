use Rattle.std.proofs.Common.{◌≡◌, drop}
use Rattle.az_ast.proofs.Walks.{some_below}
use Rattle.az_ast.proofs.walk.+some_part.Given as goal

abbrev pub decreases-some_part : goal.decreases-some_part
decreases-some_part g l = goal.size-some_part g l

-- the branches that are left decide
abbrev pub invariant-loop-branch : goal.invariant-loop-branch
invariant-loop-branch g l =
    some_below (g.P.PartTest.wants l.test) (drop l.branch-index l.branch-items) ≡ some_below (g.P.PartTest.wants l.test) l.branch-items
