use Rattle.std.proofs.Common.{◌≡◌, ◌∙◌, ap, sym, subst, length, take, List, All, arith}
use Rattle.std.proofs.lemmas.List.{take_all}
use Rattle.std.proofs.lemmas.List.Elements.{All-nil, All-more}
use Rattle.az_ast.specs.Term.{term, cases}
use Rattle.az_ast.specs.declared.expr.Branch.{Branch}
use Rattle.az_ast.proofs.Terms.{term-Cases}
use Rattle.az_ast.proofs.Walks.{below}
use Rattle.expr_maps.specs.Answers.{EachAccess}
use Rattle.expr_maps.specs.Replaced.{replaced, replaced_below}
use Rattle.expr_maps.proofs.BranchSteps.{term_of_cases, below-all, all-below, fault-step, changed-more, replaced-after}
use Rattle.expr_maps.proofs.replacement.+replace_accesses.Goals as goal

pub loop-branch-init : goal.loop-branch-init
loop-branch-init g t c =
    let items = c.as_slice-branches.result.now in
    let wants = g.R.Replacement.wants c.args.replacement.now in
    let whole = term_of_cases c.args.e.now c.in-Cases.branches items c.in-Cases.is c.as_slice-branches.ensures in
    record {
      wanted = below-all wants items (subst (λ e. EachAccess wants e) whole c.requires);
      made = ap below c.new-items.ensures;
      fit = All-nil (λ (b : Branch). EachAccess (g.R.Replacement.fits c.args.replacement.now) (term b.body));
    }

pub returns-in_err-body-in-Cases : goal.returns-in_err-body-in-Cases
returns-in_err-body-in-Cases g t c =
    let items = c.as_slice-branches.result.now in
    let gives = g.R.Replacement.gives c.args.replacement.now in
    let fits = g.R.Replacement.fits c.args.replacement.now in
    let whole = term_of_cases c.args.e.now c.in-Cases.branches items c.in-Cases.is c.as_slice-branches.ensures in
    let e = c.branch-item.result.body in
    fault-step (replaced gives (term e)) (replaced gives (term c.args.e.now)) (EachAccess fits (term e)) (EachAccess fits (term c.args.e.now)) c.in_err-body-in-Cases.field-0.0 c.from_residual-in_err-body-in-Cases.result
    (λ all.
    let each : All (λ (b : Branch). EachAccess fits (term b.body)) items = below-all fits items (subst (λ e. EachAccess fits e) whole all) in
    subst (λ (b : Branch). EachAccess fits (term b.body)) (sym c.branch-item.is) (each c.loop-branch.branch-index c.branch-item.result c.loop-branch-test.true))
    c.in_err-body-in-Cases.ensures c.from_residual-in_err-body-in-Cases.ensures.1

pub loop-branch-preserved : goal.loop-branch-preserved
loop-branch-preserved g t c =
    let branches = c.as_slice-branches.result.now in
    let gives = g.R.Replacement.gives c.args.replacement.now in
    let fits = g.R.Replacement.fits c.args.replacement.now in
    let i = c.loop-branch.branch-index in
    let branch = c.branch-item.result in
    let body = c.in_ok-body-in-Cases.ensures in
    let P : Branch → Type 0 = λ (b : Branch). EachAccess fits (term b.body) in
    record {
      wanted = c.loop-branch.invariant.wanted;
      made = changed-more (replaced_below gives) (λ d. d) (replaced gives) (replaced-after gives) branches c.loop-branch.items c.push.new.self i branch (record { domain = c.in_ok-domain-in-Cases.domain; body = c.in_ok-body-in-Cases.body }) c.loop-branch-test.true c.branch-item.is
          c.in_ok-domain-in-Cases.ensures.ok body.0 c.in_ok-push-in-Cases.ensures.ok c.loop-branch.invariant.made;
      fit = All-more P branches i branch c.loop-branch-test.true c.loop-branch.invariant.fit (subst P c.branch-item.is body.1);
    }

pub returns-after-loop-branch : goal.returns-after-loop-branch
returns-after-loop-branch g t c =
    let items = c.as_slice-branches.result.now in
    let gives = g.R.Replacement.gives c.args.replacement.now in
    let fits = g.R.Replacement.fits c.args.replacement.now in
    let whole = term_of_cases c.args.e.now c.in-Cases.branches items c.in-Cases.is c.as_slice-branches.ensures in
    let at : c.loop-branch.branch-index ≡ length items = omega arith in
    let end : take c.loop-branch.branch-index items ≡ items = take_all c.loop-branch.branch-index items (omega (arith, at)) in (
      term-Cases c.loop-branch.items
          ∙ (ap cases (c.loop-branch.invariant.made ∙ ap (λ bs. replaced_below gives (below bs)) end)
          ∙ ap (replaced gives) (sym whole)),
      subst (λ e. EachAccess fits e) (sym whole) (all-below fits items (subst (λ (bs : List Branch). All (λ (b : Branch). EachAccess fits (term b.body)) bs) end c.loop-branch.invariant.fit)),
    )
