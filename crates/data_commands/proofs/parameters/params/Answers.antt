use Rattle.std.proofs.Common.{◌≡◌, ◌∙◌, List, ℤ, All, rules, sym, subst}
use Rattle.std.proofs.lemmas.Bool.{false≢true}
use Rattle.std.specs.Prelude.{Err}
use Rattle.az_lin.specs.Affine.{Union, IsEntry, HoldsSome}
use Rattle.az_ast.specs.declared.reason.Reason.TheVariants as reason
use Rattle.session_state.proofs.Taking.{stops_first}
use Rattle.session_state.specs.Steps.{◌>>=◌, gives, holds_or}
use Rattle.session_state.specs.declared.refusal.Refusal.TheVariants.{Command}
use Rattle.data_commands.specs.Parameters.{all_set}
use Rattle.data_commands.proofs.Values.{entries, outside}
use Rattle.data_commands.proofs.parameters.params.Goals as goal

pub returns-in_err-values-clause-answer : goal.returns-in_err-values-clause-answer
returns-in_err-values-clause-answer c =
    let handed : c.from_residual.result ≡ Err c.in_err-values.field-0.0 = search rules in
    rw handed (stops_first (λ call. ⊥) (all_set c.args.settings.now)
    (λ values. holds_or (Command reason.Params) (HoldsSome c.args.program.now.pdom values) >>= (λ held. gives values)) c.in_err-values.field-0.0 c.in_err-values.ensures)

pub holds_params-requires-clause-range : goal.holds_params-requires-clause-range
holds_params-requires-clause-range c =
    subst (All IsEntry) (sym c.as_slice.ensures) (entries c.in_ok-values.values c.args.settings.now c.in_ok-values.ensures c.requires.set.coordinates)

pub returns-then-not-holds_params-clause-answer : goal.returns-then-not-holds_params-clause-answer
returns-then-not-holds_params-clause-answer c =
    outside c.args.program.now c.args.settings.now c.in_ok-values.values c.unset.result c.in_ok-values.ensures
    (λ held. false≢true (sym c.if-not-holds_params.true ∙ c.holds_params.ensures.1
    (subst (λ (d : Union). HoldsSome d c.as_slice.result.now) (sym c.pdom.ensures) (subst (λ (zs : List ℤ). HoldsSome c.args.program.now.pdom zs) (sym c.as_slice.ensures) held))))
    c.unset.ensures

pub returns-clause-entries : goal.returns-clause-entries
returns-clause-entries c = entries c.in_ok-values.values c.args.settings.now c.in_ok-values.ensures c.requires.set.coordinates
