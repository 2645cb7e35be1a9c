use Rattle.std.proofs.Common.{◌≡◌, ◌+◌, ◌*◌, ◌≤◌, ◌++◌, length, take, drop}
use Rattle.az_ast.specs.Nodes.{nodes}
use Rattle.az_ast.specs.Term.{term}
use Rattle.equation_meaning.specs.Counts.{TermCounts}
use Rattle.equation_meaning.specs.Inner.Counting.{Evaluated, IsCounted}
use Rattle.equation_meaning.proofs.BodySteps.{IsLeft}
use Rattle.equation_meaning.proofs.Counting.{Parts, MetIn}
use Rattle.equation_meaning.proofs.body_count.+counting.Given as goal

abbrev pub decreases-count_of : goal.decreases-count_of
decreases-count_of l = 2 * nodes (term l.e.now)

abbrev pub decreases-body_count : goal.decreases-body_count
decreases-body_count l = 2 * nodes (term l.body.now) + 1

-- the points so far are counted
abbrev pub invariant-body_count-members : goal.invariant-body_count-members
invariant-body_count-members l = record {
  outer : take (length l.z) l.point.items ≡ l.z;
  long : length l.z ≤ length l.point.items;
  counted :
      IsCounted (Parts (λ k c. TermCounts (term l.body) (l.z ++ k) c) (λ k. Evaluated (term l.body) (l.z ++ k)) (length l.points) (take l.k-index l.points))
      (MetIn (λ k c. TermCounts (term l.body) (l.z ++ k) c) (λ k. Evaluated (term l.body) (l.z ++ k)) (length l.points) (take l.k-index l.points)) l.left l.count;
}

-- what is left of the branches answers for the case
abbrev pub invariant-count_of-branches : goal.invariant-count_of-branches
invariant-count_of-branches l = IsLeft l.e l.z (drop l.branch-index l.branch-items)
