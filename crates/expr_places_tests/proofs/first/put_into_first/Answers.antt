use Rattle.std.proofs.Common.{◌<◌, ◌∙◌, length, get_or, ap, subst, rules}
use Rattle.expr_places_tests.proofs.FirstEquation.{can_put_first}
use Rattle.expr_places_tests.proofs.first.put_into_first.Goals as goal

pub put-requires : goal.put-requires
put-requires c =
    let p = c.args.program.now in
    let f = c.args.f.now in
    let equation = c.index-equations-0.result in
    let variable = c.index-variables-equation.result in
    let equations = c.equations-equations.ensures.value in
    let variables = c.variables.ensures.value in
    let some : 0 < length c.equations-equations.result.now = search rules in
    can_put_first p c.equations-equations.ensures.rules equation variable (subst (λ es. 0 < length es) equations some)
    (c.index-equations-0.is ∙ ap (λ es. get_or es 0 equation) equations)
    (c.index-variables-equation.is ∙ ap (λ vs. get_or vs equation.variable variable) variables)
    f (search rules) (search rules)
