use Rattle.std.proofs.Common.{List, ℕ, ℤ, rules, subst, sym, FitsSigned, to_z, of_z}
use Rattle.std.specs.Int.{w128}
use Rattle.std.proofs.lemmas.Int.{to_z-of_z}
use Rattle.command_words.specs.declared.binding.Binding.{Binding}
use Rattle.session_state.specs.Settings.{set_parameter}
use Rattle.session_state.specs.Steps.{TakesAlone, with_value}
use Rattle.alphaz_cli.specs.Bound.{set_bound}
use Rattle.alphaz_cli.proofs.bound.set_bound.Goals as goal

pub returns-in-Parameter-clause-answer : goal.returns-in-Parameter-clause-answer
returns-in-Parameter-clause-answer c =
    let p = c.args.program.now in
    let settings = c.args.settings.now in
    let result = with_value c.set_parameter.new.settings c.set_parameter.result in
    let fits : FitsSigned w128 c.in-Parameter.number = search rules in
    subst (λ (b : Binding). TakesAlone (set_bound p settings b) result) (sym c.in-Parameter.is)
    (subst (λ (z : ℤ). TakesAlone (set_parameter p settings c.in-Parameter.name z) result) (to_z-of_z w128 c.in-Parameter.number fits)
    (subst (λ (n : List ℕ). TakesAlone (set_parameter p settings n (to_z w128 (of_z w128 c.in-Parameter.number))) result) c.as_str.ensures c.set_parameter.ensures.answer))
