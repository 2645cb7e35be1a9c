use Rattle.std.proofs.Common.{◌≡◌, ◌∙◌, ap, sym, subst, length, take, List, All, arith}
use Rattle.std.proofs.lemmas.List.{take_all}
use Rattle.std.proofs.lemmas.List.Elements.{All-nil, All-more}
use Rattle.az_lin.specs.Affine.{HasEntryDomain}
use Rattle.az_ast.specs.Term.{term, cases}
use Rattle.az_ast.specs.declared.expr.Branch.{Branch}
use Rattle.az_ast.proofs.Terms.{term-Cases}
use Rattle.az_ast.proofs.Walks.{below}
use Rattle.az_poly.specs.Operations.{domain_before}
use Rattle.expr_maps.specs.Columns.{CanPut, HasEntriesIn}
use Rattle.expr_maps.specs.Put.{put, put_below}
use Rattle.expr_maps.proofs.BranchSteps.{BranchFits, term_of_cases, below-can, below-fits, fits-below, changed-more, put-after, fault-step, exact-fault-step}
use Rattle.expr_maps.proofs.ReductionSteps.{fit-domain, fit-body, fit-parts, made}
use Rattle.expr_maps.proofs.substitution.+put.Goals as goal

pub loop-branch-init : goal.loop-branch-init
loop-branch-init t c =
    let f = c.args.f.now in
    let items = c.as_slice-branches.result.now in
    let whole = term_of_cases c.args.e.now c.in-Cases.branches items c.in-Cases.is c.as_slice-branches.ensures in
    record {
      wanted = below-can f items (subst (λ e. CanPut f e) whole c.requires);
      made = ap below c.new-items.ensures;
      fit = All-nil (BranchFits f);
    }

pub returns-in_err-domain-in-Cases : goal.returns-in_err-domain-in-Cases
returns-in_err-domain-in-Cases t c =
    let f = c.args.f.now in
    let items = c.as_slice-branches.result.now in
    let branch = c.branch-item.result in
    let whole = term_of_cases c.args.e.now c.in-Cases.branches items c.in-Cases.is c.as_slice-branches.ensures in
    exact-fault-step HasEntryDomain (domain_before f branch.domain) (put f (term c.args.e.now)) (HasEntriesIn (put f (term c.args.e.now))) c.in_err-domain-in-Cases.field-0.0 c.from_residual-in_err-domain-in-Cases.result
    (λ all.
    let each = below-fits f items (subst (λ e. HasEntriesIn (put f e)) whole all) in
    let own : BranchFits f branch = subst (BranchFits f) (sym c.branch-item.is) (each c.loop-branch.branch-index branch c.loop-branch-test.true) in
    own.domain)
    c.in_err-domain-in-Cases.ensures c.from_residual-in_err-domain-in-Cases.ensures.1

pub returns-in_err-body-in-Cases : goal.returns-in_err-body-in-Cases
returns-in_err-body-in-Cases t c =
    let f = c.args.f.now in
    let items = c.as_slice-branches.result.now in
    let branch = c.branch-item.result in
    let whole = term_of_cases c.args.e.now c.in-Cases.branches items c.in-Cases.is c.as_slice-branches.ensures in
    fault-step (put f (term branch.body)) (put f (term c.args.e.now)) (HasEntriesIn (put f (term branch.body))) (HasEntriesIn (put f (term c.args.e.now))) c.in_err-body-in-Cases.field-0.0 c.from_residual-in_err-body-in-Cases.result
    (λ all.
    let each = below-fits f items (subst (λ e. HasEntriesIn (put f e)) whole all) in
    let own : BranchFits f branch = subst (BranchFits f) (sym c.branch-item.is) (each c.loop-branch.branch-index branch c.loop-branch-test.true) in
    own.body)
    c.in_err-body-in-Cases.ensures c.from_residual-in_err-body-in-Cases.ensures.1

pub loop-branch-preserved : goal.loop-branch-preserved
loop-branch-preserved t c =
    let f = c.args.f.now in
    let branches = c.as_slice-branches.result.now in
    let i = c.loop-branch.branch-index in
    let branch = c.branch-item.result in
    let domain = c.in_ok-domain-in-Cases.ensures in
    let body = c.in_ok-body-in-Cases.ensures in
    record {
      wanted = c.loop-branch.invariant.wanted;
      made = changed-more (put_below f) (λ d. domain_before f d) (put f) (put-after f) branches c.loop-branch.items c.push.new.self i branch (record { domain = c.in_ok-domain-in-Cases.domain; body = c.in_ok-body-in-Cases.body }) c.loop-branch-test.true c.branch-item.is
          domain.0 body.0 c.in_ok-push-in-Cases.ensures.ok c.loop-branch.invariant.made;
      fit = All-more (BranchFits f) branches i branch c.loop-branch-test.true c.loop-branch.invariant.fit (subst (BranchFits f) c.branch-item.is (record { domain = domain.1; body = body.1 }));
    }

pub returns-after-loop-branch : goal.returns-after-loop-branch
returns-after-loop-branch t c =
    let f = c.args.f.now in
    let items = c.as_slice-branches.result.now in
    let whole = term_of_cases c.args.e.now c.in-Cases.branches items c.in-Cases.is c.as_slice-branches.ensures in
    let at : c.loop-branch.branch-index ≡ length items = omega arith in
    let end : take c.loop-branch.branch-index items ≡ items = take_all c.loop-branch.branch-index items (omega (arith, at)) in (
      term-Cases c.loop-branch.items
          ∙ (ap cases (c.loop-branch.invariant.made ∙ ap (λ bs. put_below f (below bs)) end)
          ∙ ap (put f) (sym whole)),
      subst (λ e. HasEntriesIn (put f e)) (sym whole) (fits-below f items (subst (λ (bs : List Branch). All (BranchFits f) bs) end c.loop-branch.invariant.fit)),
    )

pub returns-in_err-domain-in-Reduce : goal.returns-in_err-domain-in-Reduce
returns-in_err-domain-in-Reduce t c =
    let f = c.args.f.now in
    let inner = c.in_ok-inner-in-Reduce.inner in
    exact-fault-step HasEntryDomain (domain_before inner c.in-Reduce.domain) (put f (term c.args.e.now)) (HasEntriesIn (put f (term c.args.e.now))) c.in_err-domain-in-Reduce.field-0.0 c.from_residual-in_err-domain-in-Reduce.result
    (fit-domain f c.args.e.now c.in-Reduce.op c.in-Reduce.extra c.in-Reduce.domain c.in-Reduce.e c.in-Reduce.is inner c.in_ok-inner-in-Reduce.ensures.ok)
    c.in_err-domain-in-Reduce.ensures c.from_residual-in_err-domain-in-Reduce.ensures.1

pub returns-in_err-body-in-Reduce : goal.returns-in_err-body-in-Reduce
returns-in_err-body-in-Reduce t c =
    let f = c.args.f.now in
    let inner = c.in_ok-inner-in-Reduce.inner in
    let body = c.get-e.result.now in
    fault-step (put inner (term body)) (put f (term c.args.e.now)) (HasEntriesIn (put inner (term body))) (HasEntriesIn (put f (term c.args.e.now))) c.in_err-body-in-Reduce.field-0.0 c.from_residual-in_err-body-in-Reduce.result
    (λ all. subst (λ e. HasEntriesIn (put inner (term e))) (sym c.get-e.ensures)
    (fit-body f c.args.e.now c.in-Reduce.op c.in-Reduce.extra c.in-Reduce.domain c.in-Reduce.e c.in-Reduce.is inner c.in_ok-inner-in-Reduce.ensures.ok all))
    c.in_err-body-in-Reduce.ensures c.from_residual-in_err-body-in-Reduce.ensures.1

pub returns-in_ok-new-in-Reduce : goal.returns-in_ok-new-in-Reduce
returns-in_ok-new-in-Reduce t c =
    let f = c.args.f.now in
    let inner = c.in_ok-inner-in-Reduce.inner in
    let domain = c.in_ok-domain-in-Reduce.ensures in
    let body = c.in_ok-body-in-Reduce.ensures in
    let e = c.get-e.result.now in
    let same : e ≡ c.in-Reduce.e = c.get-e.ensures in
    let view = c.domain-in-Reduce.view_is in
    let new = c.in_ok-new-in-Reduce.ensures in
    let under : term c.in_ok-body-in-Reduce.body ≡ put inner (term c.in-Reduce.e) = body.0 ∙ ap (λ e. put inner (term e)) same in
    let fits : HasEntriesIn (put inner (term c.in-Reduce.e)) = subst (λ e. HasEntriesIn (put inner (term e))) same body.1 in (
      made f c.args.e.now c.in-Reduce.op c.in-Reduce.extra c.in-Reduce.domain c.in-Reduce.e c.in-Reduce.is inner c.in_ok-inner-in-Reduce.ensures.ok _ _ (view ∙ domain.0) (ap term new ∙ under),
      fit-parts f c.args.e.now c.in-Reduce.op c.in-Reduce.extra c.in-Reduce.domain c.in-Reduce.e c.in-Reduce.is inner c.in_ok-inner-in-Reduce.ensures.ok domain.1 fits,
    )
