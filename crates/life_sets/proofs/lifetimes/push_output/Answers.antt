use Rattle.std.proofs.Common.{◌≡◌, ◌∙◌, ap, sym, subst, map, arith}
use Rattle.expr_places.specs.declared.scope.Scope.{Scope}
use Rattle.life_sets.specs.Lifetimes.{keep_of}
use Rattle.life_sets.specs.Stored.{IsStored, FitsVisit, IsInstance}
use Rattle.life_sets.proofs.Instances.{stored_own}
use Rattle.life_sets.proofs.LifeListing.{output_appends, scope_of_output}
use Rattle.order_sets.specs.Visits.{own_visit}
use Rattle.order_sets.specs.declared.visit.Visit.{Visit}
use Rattle.order_sets.proofs.Formulas.{lacks, has}
use Rattle.target_map.specs.Storage.{writers_of}
use Rattle.target_map.specs.Times.{domain_of}
use Rattle.life_sets.proofs.lifetimes.push_output.Goals as goal

pub of_first-requires-clause-inside : goal.of_first-requires-clause-inside
of_first-requires-clause-inside c =
    let p = c.args.target.now.program.now in
    let same = ap (λ (s : Scope). s.width) (c.in_ok-scope.ensures ∙ scope_of_output p c.args.x c.variables.result.now c.index-variables-x.result c.requires.output.declared c.variables.ensures.value c.index-variables-x.is) in
    omega (arith, same)

pub new-requires : goal.new-requires
new-requires c =
    let p = c.args.target.now.program.now in
    let m = c.args.target.now.mapping.now in
    subst (IsStored m) (sym c.in_ok-point.ensures) (stored_own p m c.requires.target.complete c.args.x c.in_ok-scope.scope.width c.requires.output)

pub returns-in_default : goal.returns-in_default
returns-in_default c = λ fits.
    let p = c.args.target.now.program.now in
    let m = c.args.target.now.mapping.now in
    let is : c.in_ok-point.point ≡ own_visit p c.args.x (domain_of p c.args.x).width = c.in_ok-point.ensures ∙ ap (λ (s : Scope). own_visit p c.args.x s.width) (c.in_ok-scope.ensures ∙ scope_of_output p c.args.x c.variables.result.now c.index-variables-x.result c.requires.output.declared c.variables.ensures.value c.index-variables-x.is) in
    lacks (FitsVisit m c.in_ok-point.point) (IsInstance m c.in_ok-point.point) c.in_ok-point-2.field-0 c.in_ok-point-2.ensures c.in_default.not-Some (subst (FitsVisit m) (sym is) fits.point)

pub push_keeps-requires-clause-scope : goal.push_keeps-requires-clause-scope
push_keeps-requires-clause-scope c =
    let p = c.args.target.now.program.now in
    c.in_ok-scope.ensures ∙ scope_of_output p c.args.x c.variables.result.now c.index-variables-x.result c.requires.output.declared c.variables.ensures.value c.index-variables-x.is

pub push_keeps-requires-clause-point : goal.push_keeps-requires-clause-point
push_keeps-requires-clause-point c =
    let p = c.args.target.now.program.now in
    let m = c.args.target.now.mapping.now in
    let is : c.in_ok-point.point ≡ own_visit p c.args.x (domain_of p c.args.x).width = c.in_ok-point.ensures ∙ ap (λ (s : Scope). own_visit p c.args.x s.width) (c.in_ok-scope.ensures ∙ scope_of_output p c.args.x c.variables.result.now c.index-variables-x.result c.requires.output.declared c.variables.ensures.value c.index-variables-x.is) in
    let there = has (FitsVisit m c.in_ok-point.point) (IsInstance m c.in_ok-point.point) c.in_ok-point-2.field-0 c.in-Some.point c.in_ok-point-2.ensures c.in-Some.is in
    subst (λ (visit : Visit). IsInstance m visit c.in-Some.point) is there.0

pub returns : goal.returns
returns c =
    let p = c.args.target.now.program.now in
    let m = c.args.target.now.mapping.now in
    let is : c.in_ok-point.point ≡ own_visit p c.args.x (domain_of p c.args.x).width = c.in_ok-point.ensures ∙ ap (λ (s : Scope). own_visit p c.args.x s.width) (c.in_ok-scope.ensures ∙ scope_of_output p c.args.x c.variables.result.now c.index-variables-x.result c.requires.output.declared c.variables.ensures.value c.index-variables-x.is) in
    let there = has (FitsVisit m c.in_ok-point.point) (IsInstance m c.in_ok-point.point) c.in_ok-point-2.field-0 c.in-Some.point c.in_ok-point-2.ensures c.in-Some.is in
    output_appends p m c.args.x (map (keep_of p m c.args.x) (writers_of p m c.args.x)) c.args.list.now.items c.push_keeps.new.list.items c.push_keeps.result (subst (FitsVisit m) is there.1) c.push_keeps.ensures
