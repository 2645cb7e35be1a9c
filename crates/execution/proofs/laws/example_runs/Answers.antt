use Rattle.execution.proofs.Examples.{example_runs}
use Rattle.execution.proofs.laws.example_runs.Goals as goal

pub returns : goal.returns
returns c = example_runs
