use Rattle.execution.proofs.LawProofs.{enabled_events_fall}
use Rattle.execution.proofs.laws.enabled_events_fall.Goals as goal

pub returns : goal.returns
returns c = enabled_events_fall
