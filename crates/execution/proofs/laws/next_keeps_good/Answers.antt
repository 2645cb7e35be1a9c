use Rattle.execution.proofs.LawProofs.{next_keeps_good}
use Rattle.execution.proofs.laws.next_keeps_good.Goals as goal

pub returns : goal.returns
returns c = next_keeps_good
