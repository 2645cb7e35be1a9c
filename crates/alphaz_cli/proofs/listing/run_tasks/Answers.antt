use Rattle.std.proofs.Common.{◌≡◌, arith, length-drop}
use Rattle.std.specs.Prelude.{Err}
use Rattle.command_listing.proofs.Rest.{handed_on, one_more, stops_here, all_ran}
use Rattle.alphaz_cli.specs.Tasks.{tasks}
use Rattle.alphaz_cli.proofs.listing.run_tasks.Goals as goal

pub tasks-init : goal.tasks-init
tasks-init g c = record { sound = tt; runs = λ ending new h. h }

pub turn-requires-clause-sound : goal.turn-requires-clause-sound
turn-requires-clause-sound g c = λ κs lives. c.tasks.invariant.sound

pub tasks-preserved : goal.tasks-preserved
tasks-preserved g c = record {
  sound = c.turn.ensures.sound;
  runs =
      one_more tasks c.args.all.now (g.D.Desk.seen c.args.desk.now) c.tasks.index
      c.tasks.session (g.D.Desk.seen c.tasks.desk) c.tasks.invariant.runs c.index-all-index.result c.tasks-test.true c.index-all-index.is c.turn.new.session (g.D.Desk.seen c.turn.new.desk)
      c.in_ok-turn.ensures.answer;
}

pub returns-in_err-turn : goal.returns-in_err-turn
returns-in_err-turn g c =
    let handed : c.from_residual.result ≡ Err c.in_err-turn.field-0.0 = handed_on c.from_residual.result c.in_err-turn.field-0.0 c.from_residual.ensures.1 in
    rw handed (
    stops_here tasks c.args.all.now (g.D.Desk.seen c.args.desk.now) c.tasks.index
    c.tasks.session (g.D.Desk.seen c.tasks.desk) c.tasks.invariant.runs c.index-all-index.result c.tasks-test.true c.index-all-index.is c.in_err-turn.field-0.0
    (g.D.Desk.seen c.turn.new.desk) c.in_err-turn.ensures.answer)

pub returns : goal.returns
returns g c =
    all_ran tasks c.args.all.now (g.D.Desk.seen c.args.desk.now) c.tasks.index
    c.tasks.session (g.D.Desk.seen c.tasks.desk) c.tasks.invariant.runs (omega (arith, length-drop c.tasks.index c.args.all.now))
