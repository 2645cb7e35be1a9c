use Rattle.std.proofs.Common.{◌≡◌, drop}
use Rattle.az_ast.specs.Term.{term}
use Rattle.equation_meaning.proofs.Branches.{branches_of}
use Rattle.equation_meaning.specs.Inner.Counting.{has_reduction, have_reduction}
use Rattle.equation_meaning.proofs.body_count.+has_reduction.Given as goal

abbrev pub decreases-has_reduction : goal.decreases-has_reduction
decreases-has_reduction l = goal.size-has_reduction l

abbrev pub invariant-branches : goal.invariant-branches
invariant-branches l = have_reduction (branches_of (drop l.branch-index l.branch-items)) ≡ has_reduction (term l.e)
