use Rattle.execution.proofs.LawProofs.{some_turn_is_enabled}
use Rattle.execution.proofs.laws.some_turn_is_enabled.Goals as goal

pub returns : goal.returns
returns c = some_turn_is_enabled
