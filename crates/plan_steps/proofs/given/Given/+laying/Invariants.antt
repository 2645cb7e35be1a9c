use Rattle.std.proofs.Common.{◌≡◌, ◌+◌, ◌*◌, ◌≤◌, length, take, drop}
use Rattle.az_ast.specs.Nodes.{nodes}
use Rattle.az_ast.specs.Term.{term}
use Rattle.az_ast.proofs.Walks.{below}
use Rattle.plan_steps.specs.Inner.Laid.{IsFolding}
use Rattle.plan_steps.proofs.Cases.{IsLeft}
use Rattle.plan_steps.proofs.given.Given.+laying.Given as goal

abbrev pub decreases-lay : goal.decreases-lay
decreases-lay l = 2 * nodes (term l.e.now)

abbrev pub decreases-lay_fold : goal.decreases-lay_fold
decreases-lay_fold l = 2 * nodes (term l.e.now) + 1

-- what is left of the branches is what the case is
abbrev pub invariant-lay-branches : goal.invariant-lay-branches
invariant-lay-branches l = record {
  left : IsLeft l.self.program.now l.self.inputs.now (term l.e) l.z (below (drop l.branch-index l.branch-items));
  body : l.body ≡ l.fn.body;
}

-- the members so far are folded
abbrev pub invariant-lay_fold-members : goal.invariant-lay_fold-members
invariant-lay_fold-members l = record {
  width : l.scanner.width ≡ l.fn.scanner.width;
  room : length l.k.items ≡ l.scanner.width;
  outer : take (length l.z) l.point.items ≡ l.z;
  long : length l.z ≤ length l.point.items;
  folding : IsFolding l.self.program.now l.self.inputs.now l.op (term l.e) l.z l.fn.scanner.to_come l.scanner.to_come l.fn.body l.body;
  points : l.body.points ≤ l.room.points;
  loads : length l.body.loads ≤ l.room.loads;
}

abbrev pub decreases-lay_fold-members : goal.decreases-lay_fold-members
decreases-lay_fold-members l = length l.scanner.to_come
