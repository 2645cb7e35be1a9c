use Rattle.std.proofs.Common.{◌≡◌, ◌≤◌, ◌+◌, ◌-◌, refl, sym, ap, subst, ◌∙◌, arith, length, drop}
use Rattle.std.specs.Prelude.{SomeIff}
use Rattle.std.proofs.Math.Seq.{drop-length}
use Rattle.az_ast.specs.Nodes.{nodes, nodes_below}
use Rattle.az_ast.specs.Term.{term}
use Rattle.az_ast.proofs.Walks.{below, of_cases, nodes-next}
use Rattle.az_ast.proofs.walk.+nodes_left.Goals as goal

pub returns-in_err-left-in-Cases : goal.returns-in_err-left-in-Cases
returns-in_err-left-in-Cases t c =
    let items = c.as_slice-branch-items.result.now in
    let same : nodes (term c.args.e.now) ≡ nodes_below (below items) + 1 = of_cases nodes (λ b. nodes_below b + 1) (λ b. refl) c.args.e.now c.in-Cases.branches items c.in-Cases.is c.as_slice-branch-items.ensures in
    let next = nodes-next items c.loop-branch.branch-index c.branch-item.result c.loop-branch-test.true c.branch-item.is in
    let kept = c.loop-branch.invariant.1 in
    let more = c.loop-branch.invariant.0 in
    subst (λ r. SomeIff r (nodes (term c.args.e.now) ≤ c.args.most) (c.args.most - nodes (term c.args.e.now))) (sym c.from_residual-in_err-left-in-Cases.ensures)
    (λ h. c.in_err-left-in-Cases.ensures (omega (arith, same, next, kept, more, h)))

pub returns-after-loop-branch : goal.returns-after-loop-branch
returns-after-loop-branch t c =
    let items = c.as_slice-branch-items.result.now in
    let same : nodes (term c.args.e.now) ≡ nodes_below (below items) + 1 = of_cases nodes (λ b. nodes_below b + 1) (λ b. refl) c.args.e.now c.in-Cases.branches items c.in-Cases.is c.as_slice-branch-items.ensures in
    let at : c.loop-branch.branch-index ≡ length items = omega arith in
    let end : drop c.loop-branch.branch-index items ≡ _ = ap (λ k. drop k items) at ∙ drop-length items in
    let none : nodes_below (below (drop c.loop-branch.branch-index items)) ≡ 0 = ap (λ rest. nodes_below (below rest)) end in
    let kept = c.loop-branch.invariant.1 in
    let more = c.loop-branch.invariant.0 in
    (omega (arith, same, none, kept, more), omega (arith, same, none, kept, more))
