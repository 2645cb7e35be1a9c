use Rattle.std.proofs.Common.{◌≡◌, take, All}
use Rattle.az_ast.proofs.Walks.{below}
use Rattle.expr_maps.specs.Put.{put_below}
use Rattle.expr_maps.proofs.BranchSteps.{CanPutBranch, BranchFits}
use Rattle.expr_maps.proofs.substitution.+put.Given as goal

abbrev pub decreases-put : goal.decreases-put
decreases-put l = goal.size-put l

-- what is asked of all branches, and what was made of those before
abbrev pub invariant-loop-branch : goal.invariant-loop-branch
invariant-loop-branch l = record {
  wanted : All (CanPutBranch l.f) l.branches;
  made : below l.items ≡ put_below l.f (below (take l.branch-index l.branches));
  fit : All (BranchFits l.f) (take l.branch-index l.branches);
}
