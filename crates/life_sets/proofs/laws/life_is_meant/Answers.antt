use Rattle.life_sets.proofs.Meaning.{life_is_meant}
use Rattle.life_sets.proofs.laws.life_is_meant.Goals as goal

pub returns : goal.returns
returns c = life_is_meant
