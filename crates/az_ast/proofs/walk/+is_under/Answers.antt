use Rattle.std.proofs.Common.{◌≡◌, ◌≤◌, refl, sym, ap, subst, ◌∙◌, arith, length, drop}
use Rattle.std.proofs.Math.Seq.{drop-length}
use Rattle.az_ast.specs.Term.{term}
use Rattle.az_ast.specs.Walks.{extra_under, extra_below}
use Rattle.az_ast.proofs.Walks.{below, of_cases, under-next}
use Rattle.az_ast.proofs.walk.+is_under.Goals as goal

pub returns-then-not-is_under : goal.returns-then-not-is_under
returns-then-not-is_under t c =
    let items = c.as_slice-branch-items.result.now in
    let same : extra_under (term c.args.e.now) ≡ extra_below (below items) = of_cases extra_under extra_below (λ b. refl) c.args.e.now c.in-Cases.branches items c.in-Cases.is c.as_slice-branch-items.ensures in
    let next = under-next items c.loop-branch.branch-index c.branch-item.result c.loop-branch-test.true c.branch-item.is in
    (λ q. cc, λ h. let left = c.loop-branch.invariant.1 (subst (λ n. n ≤ c.args.most) same h) in let y = c.is_under-in-loop-branch.ensures.1 (omega (arith, next, left)) in cc)

pub returns-after-loop-branch : goal.returns-after-loop-branch
returns-after-loop-branch t c =
    let items = c.as_slice-branch-items.result.now in
    let same : extra_under (term c.args.e.now) ≡ extra_below (below items) = of_cases extra_under extra_below (λ b. refl) c.args.e.now c.in-Cases.branches items c.in-Cases.is c.as_slice-branch-items.ensures in
    let at : c.loop-branch.branch-index ≡ length items = omega arith in
    let end : drop c.loop-branch.branch-index items ≡ _ = ap (λ k. drop k items) at ∙ drop-length items in
    let none : extra_below (below (drop c.loop-branch.branch-index items)) ≤ c.args.most = subst (λ rest. extra_below (below rest) ≤ c.args.most) (sym end) (omega arith) in
    (λ q. subst (λ n. n ≤ c.args.most) (sym same) (c.loop-branch.invariant.0 none), λ h. refl)
