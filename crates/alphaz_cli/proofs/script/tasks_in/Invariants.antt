use Rattle.std.proofs.Common.{◌≡◌}
use Rattle.std.specs.Prelude.{map, Some}
use Rattle.alphaz_cli.specs.Tasks.{task_of}
use Rattle.alphaz_cli.proofs.script.tasks_in.Given as goal

abbrev pub invariant-commands : goal.invariant-commands
invariant-commands l = map task_of l.yielded ≡ map Some l.tasks.items
