use Rattle.std.proofs.Common.{◌≡◌, rules, arith}
use Rattle.std.proofs.lemmas.Bool.Decides.{nat_tests}
use Rattle.std.specs.Prelude.{set, Some, Err}
use Rattle.session_state.proofs.Taking.{stops_first}
use Rattle.session_state.specs.Settings.{parameter, coordinate}
use Rattle.session_state.specs.Steps.{gives, ◌>>=◌}
use Rattle.session_state.proofs.settings.set_parameter.Goals as goal

pub returns-in_err-place-clause-answer : goal.returns-in_err-place-clause-answer
returns-in_err-place-clause-answer c =
    let handed : c.from_residual.result ≡ Err c.in_err-place.field-0.0 = search rules in
    rw handed (stops_first (λ call. ⊥) (parameter c.args.program.now c.args.name.now)
    (λ place. coordinate c.args.number >>= (λ small. gives (set c.args.settings.now place (Some small)))) c.in_err-place.field-0.0 c.in_err-place.ensures.answer)

pub returns-clause-answer : goal.returns-clause-answer
returns-clause-answer c = (
  c.in_ok-place.place,
  c.in_ok-place.ensures.answer,
  (c.args.number, first_of (search rules, grind (arith, nat_tests), cc), first_of (search rules, cc)),
)
