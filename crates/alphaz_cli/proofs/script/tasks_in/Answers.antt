use Rattle.std.proofs.Common.{◌+◌, length, drop, rules}
use Rattle.std.proofs.lemmas.Iterator.Adapters.{YieldsList-from_vec}
use Rattle.std.proofs.lemmas.Iterator.Consumers.{YieldsList-so_far, YieldsList-turn}
use Rattle.alphaz_cli.proofs.CommandsLeft.{taken_and_left}
use Rattle.script_files.specs.Places.{IsSyntaxStop}
use Rattle.alphaz_cli.proofs.Scripts.{stops_open}
use Rattle.alphaz_cli.proofs.script.tasks_in.Goals as goal

pub returns-in-None-task_of : goal.returns-in-None-task_of
returns-in-None-task_of c =
    let road = YieldsList-from_vec c.args.commands (cc) (cc) in
    let so_far = YieldsList-so_far road c.commands.yielded c.commands.command-iterator c.commands.yielded_by in
    let turn = YieldsList-turn road c.commands.yielded c.commands.command-iterator c.commands.yielded_by c.next.result c.next.new.self c.in-Some.command c.in-Some.is c.next.ensures.steps in
    let order = taken_and_left c.args.commands c.commands.yielded so_far c.in-Some.command turn.0 turn.1 in
    let is : IsSyntaxStop c.args.file.now c.args.text.now (length c.commands.tasks.items) c.syntax_stop.result = search rules in
    stops_open c.commands.yielded c.in-Some.command c.commands.tasks.items c.commands.invariant c.args.file.now c.args.text.now
    (drop (length c.commands.yielded + 1) c.args.commands) c.args.commands c.syntax_stop.result order (cc) is
