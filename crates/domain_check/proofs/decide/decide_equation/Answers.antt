use Rattle.std.proofs.Common.{◌≡◌, ℕ, List, length, map, All, arith, ap, sym, subst, ◌∙◌, Ok, Err}
use Rattle.std.specs.List.{flat_map}
use Rattle.expr_places.specs.Lent.{place_of}
use Rattle.expr_places.specs.Places.{Place, places_of}
use Rattle.domain_check.specs.Cases.{Case, cases_at}
use Rattle.domain_check.specs.Stops.{FitsAt, AreFewAt}
use Rattle.domain_check.specs.Inner.Ready.{IsReady}
use Rattle.domain_check.specs.Inner.Walked.{DecidesCases}
use Rattle.domain_check.proofs.Grown.{mapped_at}
use Rattle.domain_check.proofs.Loops.{goes_more, goes_stop, goes_end}
use Rattle.domain_check.proofs.decide.decide_equation.Goals as goal

pub decide_place-requires-clause-ready : goal.decide_place-requires-clause-ready
decide_place-requires-clause-ready c =
    let p = c.args.program.now in
    let equation = c.args.equation.now in
    let items = c.deref-place-items.result.now in
    let listed : map place_of items ≡ places_of p equation = ap (map place_of) c.deref-place-items.ensures.value ∙ c.in_ok-places.ensures.list in
    let P : List Place → Type 0 = λ ps. All (IsReady p) ps in
    mapped_at (IsReady p) place_of items c.each.place-index c.place-item.result c.each-test.true c.place-item.is (subst P (sym listed) c.requires.ready)

pub decide_place-requires-clause-fits : goal.decide_place-requires-clause-fits
decide_place-requires-clause-fits c =
    let p = c.args.program.now in
    let equation = c.args.equation.now in
    let items = c.deref-place-items.result.now in
    let listed : map place_of items ≡ places_of p equation = ap (map place_of) c.deref-place-items.ensures.value ∙ c.in_ok-places.ensures.list in
    let P : List Place → Type 0 = λ ps. All (FitsAt p) ps in
    mapped_at (FitsAt p) place_of items c.each.place-index c.place-item.result c.each-test.true c.place-item.is (subst P (sym listed) c.requires.fits)

pub decide_place-requires-clause-few : goal.decide_place-requires-clause-few
decide_place-requires-clause-few c =
    let p = c.args.program.now in
    let equation = c.args.equation.now in
    let items = c.deref-place-items.result.now in
    let listed : map place_of items ≡ places_of p equation = ap (map place_of) c.deref-place-items.ensures.value ∙ c.in_ok-places.ensures.list in
    let P : List Place → Type 0 = λ ps. All (AreFewAt p) ps in
    mapped_at (AreFewAt p) place_of items c.each.place-index c.place-item.result c.each-test.true c.place-item.is (subst P (sym listed) c.requires.few)

pub returns-in-Err : goal.returns-in-Err
returns-in-Err c =
    let p = c.args.program.now in
    let equation = c.args.equation.now in
    let items = c.deref-place-items.result.now in
    let listed : map place_of items ≡ places_of p equation = ap (map place_of) c.deref-place-items.ensures.value ∙ c.in_ok-places.ensures.list in
    let D : ℕ → Type 0 = λ owner. DecidesCases owner c.each.at.next (cases_at p (place_of c.place-item.result)) (Err c.in-Err.fault) in
    let W : List Case → Type 0 = λ cases. DecidesCases equation.variable 0 cases (Err c.in-Err.fault) in
    subst W (ap (flat_map (cases_at p)) listed)
    (goes_stop place_of (cases_at p) items c.each.place-index equation.variable 0 c.each.at.next (flat_map (cases_at p) (map place_of items)) c.each.invariant.1
    c.place-item.result c.in-Err.fault c.each-test.true c.place-item.is (subst D c.each.invariant.0 (c.in-Err.ensures {u = tt})))

pub each-preserved : goal.each-preserved
each-preserved c =
    let p = c.args.program.now in
    let equation = c.args.equation.now in
    let items = c.deref-place-items.result.now in
    let listed : map place_of items ≡ places_of p equation = ap (map place_of) c.deref-place-items.ensures.value ∙ c.in_ok-places.ensures.list in
    let D : ℕ → Type 0 = λ owner. DecidesCases owner c.each.at.next (cases_at p (place_of c.place-item.result)) (Ok c.in-Ok.next) in (
      c.each.invariant.0,
      goes_more place_of (cases_at p) items c.each.place-index equation.variable 0 c.each.at.next (flat_map (cases_at p) (map place_of items)) c.each.invariant.1
          c.place-item.result c.in-Ok.next c.each-test.true c.place-item.is (subst D c.each.invariant.0 (c.in-Ok.ensures {u = tt})),
    )

pub returns : goal.returns
returns c =
    let p = c.args.program.now in
    let equation = c.args.equation.now in
    let items = c.deref-place-items.result.now in
    let listed : map place_of items ≡ places_of p equation = ap (map place_of) c.deref-place-items.ensures.value ∙ c.in_ok-places.ensures.list in
    let end : c.each.place-index ≡ length items = omega arith in
    let W : List Case → Type 0 = λ cases. DecidesCases equation.variable 0 cases (Ok c.each.at.next) in
    (subst W (ap (flat_map (cases_at p)) listed)
    (goes_end place_of (cases_at p) items c.each.place-index equation.variable 0 c.each.at.next (flat_map (cases_at p) (map place_of items)) c.each.invariant.1 end)).0
