use Rattle.std.proofs.Common.{◌≡◌, ◌↔◌, ◌++◌, map, get_or, subst, All, sym, ap, ◌∙◌}
use Rattle.std.proofs.lemmas.List.Elements.{All-contains}
use Rattle.az_ast.specs.Certified.{IsSoundEquation}
use Rattle.az_ast.specs.Placed.{IsEquationPlaced}
use Rattle.az_ast.specs.Term.{term}
use Rattle.expr_places.specs.Lent.{place_of}
use Rattle.expr_places.specs.Places.{places}
use Rattle.expr_places.specs.Soundness.{IsSoundAt}
use Rattle.expr_places.proofs.Soundness.{sound_by_places}
use Rattle.expr_places.proofs.Walks.{listed}
use Rattle.expr_places.proofs.walk.places.Goals as goal

pub returns-clause-list : goal.returns-clause-list
returns-clause-list c =
    let p = c.args.program.now in
    let equation = c.args.equation.now in
    let placed : IsEquationPlaced p.variables equation = All-contains (IsEquationPlaced p.variables) p.equations equation c.variables.ensures.rules.placed.bodies c.requires in
    let variable = c.index-variables-equation.result in
    let declared : variable ≡ get_or p.variables equation.variable variable
    = c.index-variables-equation.is ∙ ap (λ vs. get_or vs equation.variable variable) c.variables.ensures.value in
    listed p equation variable c.in_ok-scope.scope (map place_of c.push_places.new.found.items) placed declared c.in_ok-scope.ensures
    (c.in_ok-push_places.ensures ∙ ap (λ ps. map place_of ps ++ places (term equation.body) c.in_ok-scope.scope) c.new-found.ensures.items)

pub returns-clause-sound : goal.returns-clause-sound
returns-clause-sound c =
    let p = c.args.program.now in
    let equation = c.args.equation.now in
    let placed : IsEquationPlaced p.variables equation = All-contains (IsEquationPlaced p.variables) p.equations equation c.variables.ensures.rules.placed.bodies c.requires in
    subst (λ ps. IsSoundEquation p equation ↔ All (IsSoundAt p) ps) (sym (returns-clause-list c)) (sound_by_places p equation placed)
