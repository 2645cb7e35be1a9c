use Rattle.expr_places.proofs.Branches.{one_branch}
use Rattle.expr_places.proofs.laws.branches_are_one.Goals as goal

pub returns : goal.returns
returns c = one_branch
