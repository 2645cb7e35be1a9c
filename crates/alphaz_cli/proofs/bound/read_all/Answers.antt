use Rattle.std.proofs.Common.{◌≡◌, ◌∙◌, rules, arith, length-drop, refl, sym, subst}
use Rattle.std.specs.FinMap.{empty}
use Rattle.std.specs.Prelude.{Ok, Err}
use Rattle.az_ast.specs.Tables.{Tables}
use Rattle.az_desk.specs.Desk.{Seen}
use Rattle.alphaz_cli.proofs.BoundKept.{reading_keeps}
use Rattle.alphaz_cli.specs.Bound.{read_bound}
use Rattle.data_commands.specs.Tables.{AreRead}
use Rattle.data_commands.proofs.Given.{none_read}
use Rattle.session_state.proofs.Each.{TakesRest, takes_one, stops_at, all_taken, each_keeps}
use Rattle.session_state.proofs.Taking.{left_then, left_stop}
use Rattle.session_state.specs.Steps.{Takes}
use Rattle.alphaz_cli.proofs.bound.read_all.Goals as goal

pub loop-binding-init : goal.loop-binding-init
loop-binding-init g c =
    let one = read_bound c.args.program.now (g.D.Desk.seen c.args.desk.now).files c.args.settings.now in
    record { same = refl; taken = subst (λ (m : Tables). TakesRest (λ call. Unit {0}) one c.args.bindings.now empty m 0) (sym c.new-inputs.ensures) (λ result h. h) }

pub returns-in_err-read_bound-clause-answer : goal.returns-in_err-read_bound-clause-answer
returns-in_err-read_bound-clause-answer g c =
    let p = c.args.program.now in
    let one = read_bound p (g.D.Desk.seen c.args.desk.now).files c.args.settings.now in
    let stop = c.in_err-read_bound.field-0.0 in
    let handed : c.from_residual.result ≡ Err stop = search rules in
    rw handed (stops_at (λ call. Unit {0}) one c.args.bindings.now empty c.loop-binding.inputs c.loop-binding.binding-index c.binding-item.result c.loop-binding-test.true c.binding-item.is
    stop c.loop-binding.invariant.taken
    (subst (λ (s : Seen). Takes (read_bound p s.files c.args.settings.now c.loop-binding.inputs c.binding-item.result) (Err stop)) c.loop-binding.invariant.same c.in_err-read_bound.ensures.answer))

pub returns-in_err-read_bound-clause-left : goal.returns-in_err-read_bound-clause-left
returns-in_err-read_bound-clause-left g c =
    let stop = c.in_err-read_bound.field-0.0 in
    let handed : c.from_residual.result ≡ Err stop = search rules in
    rw handed (left_stop (Unit {0}) Tables _ _ stop (left_then {B = Tables} _ _ _ (Err stop) c.loop-binding.invariant.same c.in_err-read_bound.ensures.left))

pub loop-binding-preserved : goal.loop-binding-preserved
loop-binding-preserved g c =
    let p = c.args.program.now in
    let one = read_bound p (g.D.Desk.seen c.args.desk.now).files c.args.settings.now in
    let more = c.read_bound.new.inputs in
    record {
      same = c.in_ok-read_bound.ensures.left ∙ c.loop-binding.invariant.same;
      taken =
          takes_one (λ call. Unit {0}) one c.args.bindings.now empty c.loop-binding.inputs c.loop-binding.binding-index c.binding-item.result c.loop-binding-test.true c.binding-item.is more
          c.loop-binding.invariant.taken
          (subst (λ (s : Seen). Takes (read_bound p s.files c.args.settings.now c.loop-binding.inputs c.binding-item.result) (Ok more)) c.loop-binding.invariant.same c.in_ok-read_bound.ensures.answer);
    }

pub returns-clause-answer : goal.returns-clause-answer
returns-clause-answer g c =
    all_taken (λ call. Unit {0}) (read_bound c.args.program.now (g.D.Desk.seen c.args.desk.now).files c.args.settings.now) c.args.bindings.now empty c.loop-binding.inputs
    c.loop-binding.binding-index (omega (arith, length-drop c.loop-binding.binding-index c.args.bindings.now)) c.loop-binding.invariant.taken

pub returns-clause-left : goal.returns-clause-left
returns-clause-left g c = c.loop-binding.invariant.same

pub returns-clause-read : goal.returns-clause-read
returns-clause-read g c =
    let p = c.args.program.now in
    let files = (g.D.Desk.seen c.args.desk.now).files in
    let settings = c.args.settings.now in
    each_keeps (read_bound p files settings) (AreRead p settings) (reading_keeps p files settings) c.args.bindings.now empty c.loop-binding.inputs
    (all_taken (λ call. Unit {0}) (read_bound p files settings) c.args.bindings.now empty c.loop-binding.inputs c.loop-binding.binding-index
    (omega (arith, length-drop c.loop-binding.binding-index c.args.bindings.now)) c.loop-binding.invariant.taken)
    (none_read p settings)
