use Rattle.execution.proofs.LawProofs.{claim_keeps_good}
use Rattle.execution.proofs.laws.claim_keeps_good.Goals as goal

pub returns : goal.returns
returns c = claim_keeps_good
