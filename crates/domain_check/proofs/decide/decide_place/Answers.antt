use Rattle.std.proofs.Common.{◌≡◌, ℕ, List, length, map, All, arith, ap, sym, subst, ◌∙◌, Ok, Err}
use Rattle.std.specs.List.{flat_map}
use Rattle.expr_places.specs.Lent.{place_of}
use Rattle.domain_check.specs.Cases.{Case, cases_of, cases_at}
use Rattle.domain_check.specs.Checks.{Checks, checks_at}
use Rattle.domain_check.specs.Stops.{IsFew}
use Rattle.domain_check.specs.Inner.Built.{checks_of}
use Rattle.domain_check.specs.Inner.Ready.{IsReadyChecks}
use Rattle.domain_check.specs.Inner.Walked.{DecidesCases}
use Rattle.domain_check.proofs.Grown.{mapped_at}
use Rattle.domain_check.proofs.Loops.{goes_more, goes_stop, goes_end}
use Rattle.domain_check.proofs.decide.decide_place.Goals as goal

pub decide_checks-requires-clause-ready : goal.decide_checks-requires-clause-ready
decide_checks-requires-clause-ready c =
    let p = c.args.program.now in
    let place = place_of c.args.place.now in
    let items = c.deref-checks-items.result.now in
    let listed : map checks_of items ≡ checks_at p place = ap (map checks_of) c.deref-checks-items.ensures.value ∙ (c.in-Ok.ensures {u = tt}).0 in
    let P : List Checks → Type 0 = λ cs. All IsReadyChecks cs in
    mapped_at IsReadyChecks checks_of items c.checks.checks-index c.checks-item.result c.checks-test.true c.checks-item.is (subst P (sym listed) c.requires.ready.checks)

pub decide_checks-requires-clause-few : goal.decide_checks-requires-clause-few
decide_checks-requires-clause-few c =
    let p = c.args.program.now in
    let place = place_of c.args.place.now in
    let items = c.deref-checks-items.result.now in
    let listed : map checks_of items ≡ checks_at p place = ap (map checks_of) c.deref-checks-items.ensures.value ∙ (c.in-Ok.ensures {u = tt}).0 in
    let P : List Checks → Type 0 = λ cs. All IsFew cs in
    mapped_at IsFew checks_of items c.checks.checks-index c.checks-item.result c.checks-test.true c.checks-item.is (subst P (sym listed) c.requires.few)

pub returns-in-Err : goal.returns-in-Err
returns-in-Err c =
    let p = c.args.program.now in
    let place = place_of c.args.place.now in
    let items = c.deref-checks-items.result.now in
    let listed : map checks_of items ≡ checks_at p place = ap (map checks_of) c.deref-checks-items.ensures.value ∙ (c.in-Ok.ensures {u = tt}).0 in
    let D : ℕ → Type 0 = λ owner. DecidesCases owner c.checks.at.next (cases_of (checks_of c.checks-item.result)) (Err c.in-Err.fault) in
    let W : List Case → Type 0 = λ cases. DecidesCases c.args.at.variable c.args.at.next cases (Err c.in-Err.fault) in
    subst W (ap (flat_map cases_of) listed)
    (goes_stop checks_of cases_of items c.checks.checks-index c.args.at.variable c.args.at.next c.checks.at.next (flat_map cases_of (map checks_of items)) c.checks.invariant.1
    c.checks-item.result c.in-Err.fault c.checks-test.true c.checks-item.is (subst D c.checks.invariant.0 (c.in-Err.ensures {u = tt})))

pub checks-preserved : goal.checks-preserved
checks-preserved c =
    let p = c.args.program.now in
    let place = place_of c.args.place.now in
    let items = c.deref-checks-items.result.now in
    let listed : map checks_of items ≡ checks_at p place = ap (map checks_of) c.deref-checks-items.ensures.value ∙ (c.in-Ok.ensures {u = tt}).0 in
    let D : ℕ → Type 0 = λ owner. DecidesCases owner c.checks.at.next (cases_of (checks_of c.checks-item.result)) (Ok c.in-Ok-decide_checks.next) in (
      c.checks.invariant.0,
      goes_more checks_of cases_of items c.checks.checks-index c.args.at.variable c.args.at.next c.checks.at.next (flat_map cases_of (map checks_of items)) c.checks.invariant.1
          c.checks-item.result c.in-Ok-decide_checks.next c.checks-test.true c.checks-item.is (subst D c.checks.invariant.0 (c.in-Ok-decide_checks.ensures {u = tt})),
    )

pub returns : goal.returns
returns c =
    let p = c.args.program.now in
    let place = place_of c.args.place.now in
    let items = c.deref-checks-items.result.now in
    let listed : map checks_of items ≡ checks_at p place = ap (map checks_of) c.deref-checks-items.ensures.value ∙ (c.in-Ok.ensures {u = tt}).0 in
    let end : c.checks.checks-index ≡ length items = omega arith in
    let W : List Case → Type 0 = λ cases. DecidesCases c.args.at.variable c.args.at.next cases (Ok c.checks.at.next) in
    subst W (ap (flat_map cases_of) listed)
    (goes_end checks_of cases_of items c.checks.checks-index c.args.at.variable c.args.at.next c.checks.at.next (flat_map cases_of (map checks_of items)) c.checks.invariant.1 end)
