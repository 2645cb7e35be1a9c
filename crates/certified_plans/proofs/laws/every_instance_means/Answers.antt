use Rattle.certified_plans.proofs.LawProofs.{every_instance_means}
use Rattle.certified_plans.proofs.laws.every_instance_means.Goals as goal

pub returns : goal.returns
returns c = every_instance_means
