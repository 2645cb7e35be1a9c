use Rattle.execution.proofs.LawProofs.{event_keeps_good}
use Rattle.execution.proofs.laws.event_keeps_good.Goals as goal

pub returns : goal.returns
returns c = event_keeps_good
