use Rattle.execution.proofs.LawProofs.{load_keeps_good}
use Rattle.execution.proofs.laws.load_keeps_good.Goals as goal

pub returns : goal.returns
returns c = load_keeps_good
