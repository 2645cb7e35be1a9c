use Rattle.std.proofs.Common.{◌≡◌, ◌++◌, List, length, ap, subst, sym, ◌∙◌, arith}
use Rattle.std.specs.Prelude.{ℤ}
use Rattle.az_ast.specs.Term.{term}
use Rattle.plan_steps.specs.Inner.Laid.{IsReadyAt, Lays}
use Rattle.plan_steps.specs.Layouts.{Layout}
use Rattle.plan_steps.specs.Settled.{IsSettled}
use Rattle.plan_steps.proofs.Settling.{small-body, can-lay, settled}
use Rattle.value_walk.proofs.Steps.{body-found}
use Rattle.plan_steps.proofs.given.Given.settle.Goals as goal

pub lay-requires-clause-ready : goal.lay-requires-clause-ready
lay-requires-clause-ready c =
    let p = c.args.self.now.program.now in
    let tables = c.args.self.now.inputs.now in
    let params = c.args.self.now.params.now in
    let z : c.deref.result.now ≡ params ++ c.args.point.now = c.deref.ensures.value ∙ (c.in_ok-extend_from_slice.ensures.items ∙ ap (λ (xs : List ℤ). xs ++ c.args.point.now) c.in_ok-z.ensures.items) in
    let can = can-lay p c.rules.ensures tables params c.requires.certified c.requires.inside c.requires.inputs c.requires.point.parameters c.args.variable c.args.point.now c.in-Some.equation.now c.requires.written c.requires.point
    (sym c.in-Some.ensures.value) in
    subst (λ q. IsReadyAt p tables (term c.in-Some.equation.now.body) q) (sym z) can.ready

pub lay-requires-clause-narrow : goal.lay-requires-clause-narrow
lay-requires-clause-narrow c =
    let p = c.args.self.now.program.now in
    let tables = c.args.self.now.inputs.now in
    let params = c.args.self.now.params.now in
    let z : c.deref.result.now ≡ params ++ c.args.point.now = c.deref.ensures.value ∙ (c.in_ok-extend_from_slice.ensures.items ∙ ap (λ (xs : List ℤ). xs ++ c.args.point.now) c.in_ok-z.ensures.items) in
    let can = can-lay p c.rules.ensures tables params c.requires.certified c.requires.inside c.requires.inputs c.requires.point.parameters c.args.variable c.args.point.now c.in-Some.equation.now c.requires.written c.requires.point
    (sym c.in-Some.ensures.value) in
    omega (arith, can.narrow, ap length z)

pub returns-in-Ok-clause-ok : goal.returns-in-Ok-clause-ok
returns-in-Ok-clause-ok c =
    let p = c.args.self.now.program.now in
    let tables = c.args.self.now.inputs.now in
    let params = c.args.self.now.params.now in
    let e = term c.in-Some.equation.now.body in
    let z : c.deref.result.now ≡ params ++ c.args.point.now = c.deref.ensures.value ∙ (c.in_ok-extend_from_slice.ensures.items ∙ ap (λ (xs : List ℤ). xs ++ c.args.point.now) c.in_ok-z.ensures.items) in
    let found = sym c.in-Some.ensures.value in
    let few = small-body p c.rules.ensures tables params c.args.variable c.in-Some.equation.now found in
    let lays = subst (λ q. Lays p tables e q c.clear.new.self c.lay.new.body) z c.in-Ok.ensures.lays in
    body-found p.equations c.args.variable c.in-Some.equation.now found (λ t. IsSettled p tables t (params ++ c.args.point.now) c.lay.new.body)
    (settled p tables e (params ++ c.args.point.now) c.lay.new.body few (subst (λ (q : Layout). Lays p tables e (params ++ c.args.point.now) q c.lay.new.body) c.clear.ensures lays))
