use Rattle.execution.proofs.LawProofs.{store_keeps_good}
use Rattle.execution.proofs.laws.store_keeps_good.Goals as goal

pub returns : goal.returns
returns c = store_keeps_good
