use Rattle.certified_plans.proofs.LawProofs.{every_run_keeps_values}
use Rattle.certified_plans.proofs.laws.every_run_keeps_values.Goals as goal

pub returns : goal.returns
returns c = every_run_keeps_values
