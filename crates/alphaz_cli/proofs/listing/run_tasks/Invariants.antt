use Rattle.command_listing.proofs.Rest.{RunsRest}
use Rattle.session_state.specs.Session.{IsSound}
use Rattle.alphaz_cli.specs.Tasks.{tasks}
use Rattle.alphaz_cli.proofs.listing.run_tasks.Given as goal

abbrev pub invariant-tasks : goal.invariant-tasks
invariant-tasks g l = record {
  sound : IsSound l.session;
  runs :
      RunsRest tasks l.all (g.D.Desk.seen l.fn.desk) l.index l.session (g.D.Desk.seen l.desk);
}
