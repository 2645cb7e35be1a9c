use Rattle.std.proofs.Common.{List, refl, inl, inr, subst}
use Rattle.std.specs.Prelude.{None}
use Rattle.az_desk.specs.Desk.{Seen}
use Rattle.command_listing.specs.Listing.{Runs}
use Rattle.session_state.proofs.Stopped.{stops_by}
use Rattle.session_state.specs.Lines.{program_front}
use Rattle.alphaz_cli.specs.Scripts.{script}
use Rattle.alphaz_cli.specs.Tasks.{tasks}
use Rattle.alphaz_cli.specs.declared.task.Task.{Task}
use Rattle.alphaz_cli.proofs.run.run_script.Goals as goal

pub returns-in-Ok : goal.returns-in-Ok
returns-in-Ok g c =
    let new = g.D.Desk.seen c.run_tasks.new.desk in
    inr (
      c.in-Ok.tasks,
      c.in-Ok.ensures.answer,
      subst (λ (s : Seen). Runs tasks 1 c.in-Ok.tasks None s c.run_tasks.result new) c.in-Ok.ensures.left
          (subst (λ (all : List Task). Runs tasks 1 all None (g.D.Desk.seen c.script.new.desk) c.run_tasks.result new) c.as_slice.ensures c.run_tasks.ensures),
    )

pub returns-in-Err : goal.returns-in-Err
returns-in-Err g c =
    let old = g.D.Desk.seen c.args.desk.now in
    inl (
      c.say_stop.result,
      refl,
      stops_by program_front (script old.files c.args.file.now) old (g.D.Desk.seen c.script.new.desk) (g.D.Desk.seen c.say_stop.new.desk) c.in-Err.stop c.say_stop.result
          c.in-Err.ensures.answer c.in-Err.ensures.left c.say_stop.ensures,
    )
