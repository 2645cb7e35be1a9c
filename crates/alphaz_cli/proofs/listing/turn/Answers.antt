use Rattle.std.proofs.Common.{List, ℕ, subst}
use Rattle.command_listing.proofs.Turning.{ends_turn}
use Rattle.command_listing.specs.Turns.{IsTurnSaid}
use Rattle.alphaz_cli.specs.Tasks.{tasks}
use Rattle.alphaz_cli.proofs.listing.turn.Goals as goal

pub returns-clause-answer : goal.returns-clause-answer
returns-clause-answer g c =
    let between = g.D.Desk.seen c.carry_out-carried.new.desk in
    let new = g.D.Desk.seen c.end_turn.new.desk in
    ends_turn tasks c.args.number c.args.task.now c.args.session.now c.carry_out-carried.new.session (g.D.Desk.seen c.args.desk.now) between new c.carry_out-carried.result c.end_turn.result
    c.carry_out-carried.ensures.answer c.carry_out-carried.ensures.left
    (subst (λ (a : List ℕ). IsTurnSaid c.args.number (tasks.word c.args.task.now) a c.carry_out-carried.result between c.end_turn.result new) c.answer.ensures
    (subst (λ (w : List ℕ). IsTurnSaid c.args.number w c.answer.result.now c.carry_out-carried.result between c.end_turn.result new) c.word.ensures c.end_turn.ensures))
