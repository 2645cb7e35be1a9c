use Rattle.life_sets.proofs.Certified.{certified_by_formulas}
use Rattle.life_sets.proofs.laws.certified_by_formulas.Goals as goal

pub returns : goal.returns
returns c = certified_by_formulas
