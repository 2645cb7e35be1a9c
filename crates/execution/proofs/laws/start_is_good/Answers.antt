use Rattle.execution.proofs.LawProofs.{start_is_good}
use Rattle.execution.proofs.laws.start_is_good.Goals as goal

pub returns : goal.returns
returns c = start_is_good
