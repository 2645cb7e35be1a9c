use Rattle.execution.proofs.LawProofs.{load_finds_the_meaning}
use Rattle.execution.proofs.laws.load_finds_the_meaning.Goals as goal

pub returns : goal.returns
returns c = load_finds_the_meaning
