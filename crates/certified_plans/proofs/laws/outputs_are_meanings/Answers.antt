use Rattle.certified_plans.proofs.LawProofs.{outputs_are_meanings}
use Rattle.certified_plans.proofs.laws.outputs_are_meanings.Goals as goal

pub returns : goal.returns
returns c = outputs_are_meanings
