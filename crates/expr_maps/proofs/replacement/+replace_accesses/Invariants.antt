use Rattle.std.proofs.Common.{◌≡◌, take, All}
use Rattle.az_ast.specs.Term.{term}
use Rattle.az_ast.proofs.Walks.{below}
use Rattle.expr_maps.specs.Answers.{EachAccess}
use Rattle.expr_maps.specs.Replaced.{replaced_below}
use Rattle.expr_maps.proofs.replacement.+replace_accesses.Given as goal

abbrev pub decreases-replace_accesses : goal.decreases-replace_accesses
decreases-replace_accesses g l = goal.size-replace_accesses g l

-- what is asked of all branches, and what was made of those before
abbrev pub invariant-loop-branch : goal.invariant-loop-branch
invariant-loop-branch g l = record {
  wanted : All (λ branch. EachAccess (g.R.Replacement.wants l.replacement) (term branch.body)) l.branches;
  made : below l.items ≡ replaced_below (g.R.Replacement.gives l.replacement) (below (take l.branch-index l.branches));
  fit : All (λ branch. EachAccess (g.R.Replacement.fits l.replacement) (term branch.body)) (take l.branch-index l.branches);
}
