use Rattle.normalize_eqs.proofs.NormalMeaning.{normalizing-keeps}
use Rattle.normalize_eqs.proofs.laws.normal_form_keeps_meaning.Goals as goal

pub returns : goal.returns
returns c = λ p program plain certified. normalizing-keeps p program plain certified
