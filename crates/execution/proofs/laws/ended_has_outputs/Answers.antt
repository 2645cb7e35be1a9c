use Rattle.execution.proofs.LawProofs.{ended_has_outputs}
use Rattle.execution.proofs.laws.ended_has_outputs.Goals as goal

pub returns : goal.returns
returns c = ended_has_outputs
