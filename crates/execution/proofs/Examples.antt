-- The run that was carried out by hand.
use Rattle.std.proofs.Common.{refl}
use Rattle.execution.specs.Events.{after, is_enabled}
use Rattle.execution.specs.Examples.{ExampleRuns}

pub example_runs : ExampleRuns
unfolding after is_enabled
example_runs = record { run = refl; ended = refl }
