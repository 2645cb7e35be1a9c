use Rattle.std.proofs.Common.{◌≡◌, rules, arith, length-drop, ◌∙◌}
use Rattle.std.specs.Prelude.{Err}
use Rattle.alphaz_cli.specs.Bound.{set_bound}
use Rattle.session_state.proofs.Each.{takes_one, stops_at, all_taken}
use Rattle.alphaz_cli.proofs.bound.set_each.Goals as goal

pub loop-binding-init : goal.loop-binding-init
loop-binding-init c = record { as_long = c.requires; sets = λ result h. h }

pub loop-binding-preserved : goal.loop-binding-preserved
loop-binding-preserved c = record {
  as_long = c.set_bound.ensures.same_length ∙ c.loop-binding.invariant.as_long;
  sets =
      takes_one (λ call. ⊥) (set_bound c.args.program.now) c.args.bindings.now c.args.settings.now c.loop-binding.settings c.loop-binding.binding-index c.binding-item.result
      c.loop-binding-test.true c.binding-item.is c.set_bound.new.settings c.loop-binding.invariant.sets c.in_ok-set_bound.ensures.answer;
}

pub returns-in_err-set_bound : goal.returns-in_err-set_bound
returns-in_err-set_bound c =
    let handed : c.from_residual.result ≡ Err c.in_err-set_bound.field-0.0 = search rules in
    rw handed (stops_at (λ call. ⊥) (set_bound c.args.program.now) c.args.bindings.now c.args.settings.now c.loop-binding.settings c.loop-binding.binding-index c.binding-item.result
    c.loop-binding-test.true c.binding-item.is c.in_err-set_bound.field-0.0 c.loop-binding.invariant.sets c.in_err-set_bound.ensures.answer)

pub returns : goal.returns
returns c =
    all_taken (λ call. ⊥) (set_bound c.args.program.now) c.args.bindings.now c.args.settings.now c.loop-binding.settings c.loop-binding.binding-index
    (omega (arith, length-drop c.loop-binding.binding-index c.args.bindings.now)) c.loop-binding.invariant.sets
