use Rattle.certified_plans.proofs.LawProofs.{plan_is_sound}
use Rattle.certified_plans.proofs.laws.plan_is_sound.Goals as goal

pub returns : goal.returns
returns c = plan_is_sound
