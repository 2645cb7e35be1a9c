use Rattle.chain_means.proofs.Chains.{chains_hold}
use Rattle.chain_means.proofs.chains_hold.Goals as goal

pub returns : goal.returns
returns c = chains_hold
