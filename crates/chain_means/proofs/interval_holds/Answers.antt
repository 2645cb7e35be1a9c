use Rattle.chain_means.proofs.Examples.{interval_holds}
use Rattle.chain_means.proofs.interval_holds.Goals as goal

pub returns : goal.returns
returns c = interval_holds
