use Rattle.target_map.proofs.Decisions.{pairs_are_told}
use Rattle.target_map.proofs.laws.pairs_are_told.Goals as goal

pub returns : goal.returns
returns c = pairs_are_told
