use Rattle.std.proofs.Common.{refl, inl, inr}
use Rattle.std.specs.Prelude.{Err}
use Rattle.command_words.specs.Words.{texts}
use Rattle.session_state.proofs.Stopped.{stops_by}
use Rattle.session_state.proofs.Taking.{alone_takes, left_alone}
use Rattle.session_state.specs.Lines.{program_front}
use Rattle.alphaz_cli.proofs.Ran.{has_workers}
use Rattle.alphaz_cli.specs.Runs.{asked}
use Rattle.alphaz_cli.proofs.run.run.Goals as goal

pub run_request-requires-clause-workers : goal.run_request-requires-clause-workers
run_request-requires-clause-workers g c = λ κs lives. has_workers (texts c.args.words.now) c.in-Ok.request c.in-Ok.ensures

pub returns-in-Ok : goal.returns-in-Ok
returns-in-Ok g c = inr (c.in-Ok.request, c.in-Ok.ensures, c.run_request.ensures)

pub returns-in-Err : goal.returns-in-Err
returns-in-Err g c =
    let step = asked (texts c.args.words.now) in
    let old = g.D.Desk.seen c.args.desk.now in
    inl (
      c.say_stop.result,
      refl,
      stops_by program_front step old old (g.D.Desk.seen c.say_stop.new.desk) c.in-Err.stop c.say_stop.result (alone_takes step (Err c.in-Err.stop) c.in-Err.ensures)
          (left_alone step old old (Err c.in-Err.stop) c.in-Err.ensures refl) c.say_stop.ensures,
    )
