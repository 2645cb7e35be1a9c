use Rattle.execution.proofs.LawProofs.{every_run_is_good}
use Rattle.execution.proofs.laws.every_run_is_good.Goals as goal

pub returns : goal.returns
returns c = every_run_is_good
