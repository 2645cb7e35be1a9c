use Rattle.std.proofs.Common.{◌≡◌, ◌++◌, ◌∷◌, [], ℤ, rules, refl, sym, subst, FitsSigned}
use Rattle.std.specs.Int.{w128}
use Rattle.std.specs.Prelude.{Err}
use Rattle.std.proofs.lemmas.Int.{to_z-of_z}
use Rattle.session_state.specs.Steps.{TakesAlone}
use Rattle.session_state.specs.declared.stop.Stop.{Stop}
use Rattle.data_commands.specs.Parameters.{all_set}
use Rattle.data_commands.proofs.Values.{value_more, unset_at}
use Rattle.data_commands.proofs.parameters.all_set.Goals as goal

pub returns-in-None : goal.returns-in-None
returns-in-None c =
    subst (λ (s : Stop). TakesAlone (all_set c.args.settings.now) (Err s)) (sym c.unset.ensures)
    (refl, λ values is. unset_at c.args.settings.now c.settings.setting-index _ c.settings-test.true c.in-None.is values is)

pub settings-preserved : goal.settings-preserved
settings-preserved c =
    let fits : FitsSigned w128 c.in-Some.value = search rules in
    let pushed = subst (λ (z : ℤ). c.push.new.self.items ≡ c.settings.values.items ++ z ∷ []) (to_z-of_z w128 c.in-Some.value fits) c.in_ok-push-in-Some.ensures.items in
    value_more c.args.settings.now c.settings.values.items c.push.new.self.items c.settings.setting-index c.in-Some.value _ c.settings-test.true c.in-Some.is
    c.settings.invariant pushed
