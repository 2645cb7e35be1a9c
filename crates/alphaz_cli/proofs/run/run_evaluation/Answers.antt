use Rattle.std.proofs.Common.{List, ℕ, subst}
use Rattle.az_desk.specs.Desk.{Seen}
use Rattle.session_state.proofs.Ended.{ends_listing}
use Rattle.session_state.proofs.Stopped.{stops_by}
use Rattle.session_state.specs.Endings.{IsSaid}
use Rattle.session_state.specs.Lines.{program_front}
use Rattle.alphaz_cli.proofs.Ran.{ends_stopped}
use Rattle.alphaz_cli.specs.Evaluation.{evaluation}
use Rattle.alphaz_cli.proofs.run.run_evaluation.Goals as goal

pub returns-in-Ok : goal.returns-in-Ok
returns-in-Ok g c =
    let old = g.D.Desk.seen c.args.desk.now in
    let new = g.D.Desk.seen c.say.new.desk in
    ends_listing (evaluation old.files c.args.asked.now) old new c.in-Ok.rows c.say.result c.in-Ok.ensures.answer
    (subst (λ (s : Seen). IsSaid c.in-Ok.rows s c.say.result new) c.in-Ok.ensures.left
    (subst (λ (bytes : List ℕ). IsSaid bytes (g.D.Desk.seen c.eval.new.desk) c.say.result new) c.as_slice.ensures c.say.ensures))

pub returns-in-Err : goal.returns-in-Err
returns-in-Err g c =
    let old = g.D.Desk.seen c.args.desk.now in
    let new = g.D.Desk.seen c.say_stop.new.desk in
    ends_stopped (evaluation old.files c.args.asked.now) old new c.say_stop.result
    (stops_by program_front (evaluation old.files c.args.asked.now) old (g.D.Desk.seen c.eval.new.desk) new c.in-Err.stop c.say_stop.result c.in-Err.ensures.answer c.in-Err.ensures.left
    c.say_stop.ensures)
