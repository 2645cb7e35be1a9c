use Rattle.std.proofs.Common.{◌||◌, sym, ap, ◌∙◌}
use Rattle.std.specs.List.{list_any}
use Rattle.az_ast.specs.declared.program.Equation.{Equation}
use Rattle.az_ast.specs.Term.{term}
use Rattle.az_ast.specs.Walks.{domains, is_outside}
use Rattle.az_ast.proofs.DomainLists.{some_domain}
use Rattle.az_ast.proofs.limits.some_outside.Goals as goal

pub returns-then-variable : goal.returns-then-variable
returns-then-variable c =
    let test = is_outside c.args.bounds.now.least c.args.bounds.now.most in
    let others = list_any (λ (e : Equation). list_any test (domains (term e.body))) c.args.equations.now in
    c.if-variable.true
    ∙ sym (some_domain test c.args.variables.now c.args.equations.now ∙ ap (λ b. b || others) (sym c.some_variable_outside-variable.ensures ∙ c.if-variable.true))

pub returns-else-variable : goal.returns-else-variable
returns-else-variable c =
    let test = is_outside c.args.bounds.now.least c.args.bounds.now.most in
    let others = list_any (λ (e : Equation). list_any test (domains (term e.body))) c.args.equations.now in
    c.some_equation_outside.ensures
    ∙ sym (some_domain test c.args.variables.now c.args.equations.now ∙ ap (λ b. b || others) (sym c.some_variable_outside-variable.ensures ∙ c.if-variable.false))
