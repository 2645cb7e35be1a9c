use Rattle.certified_plans.proofs.ExampleProofs.{are_worked_out}
use Rattle.certified_plans.proofs.laws.examples_are_worked_out.Goals as goal

pub returns : goal.returns
returns c = are_worked_out
