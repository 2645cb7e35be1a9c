use Rattle.std.proofs.Common.{◌≡◌, List, length, map, take, All, arith, ap, sym, subst, ◌∙◌}
use Rattle.expr_places.specs.Lent.{place_of}
use Rattle.expr_places.specs.Places.{Place, places_of}
use Rattle.expr_places.specs.declared.place.Place.{Place as LentPlace}
use Rattle.domain_check.specs.Stops.{FitsAt, AreFewAt}
use Rattle.domain_check.specs.Inner.Ready.{IsReady}
use Rattle.domain_check.specs.Inner.Walked.{TellsMany}
use Rattle.domain_check.proofs.Building.{handed_on}
use Rattle.domain_check.proofs.Grown.{mapped_at, taken_all}
use Rattle.domain_check.proofs.Surveys.{all_more, tells_more}
use Rattle.domain_check.proofs.survey.survey_equation.Goals as goal

pub survey_place-requires : goal.survey_place-requires
survey_place-requires c =
    let p = c.args.program.now in
    let equation = c.args.equation.now in
    let items = c.deref-place-items.result.now in
    let listed : map place_of items ≡ places_of p equation = ap (map place_of) c.deref-place-items.ensures.value ∙ c.in_ok-places.ensures.list in
    let P : List Place → Type 0 = λ ps. All (IsReady p) ps in
    mapped_at (IsReady p) place_of items c.each.place-index c.place-item.result c.each-test.true c.place-item.is (subst P (sym listed) c.requires.ready)

pub returns-in-Err : goal.returns-in-Err
returns-in-Err c =
    let p = c.args.program.now in
    let equation = c.args.equation.now in
    let items = c.deref-place-items.result.now in
    let listed : map place_of items ≡ places_of p equation = ap (map place_of) c.deref-place-items.ensures.value ∙ c.in_ok-places.ensures.list in
    let P : List Place → Type 0 = λ ps. All (FitsAt p) ps in
    handed_on (FitsAt p (place_of c.place-item.result)) (All (FitsAt p) (places_of p equation)) c.in-Err.fault (c.in-Err.ensures {u = tt})
    (λ all. mapped_at (FitsAt p) place_of items c.each.place-index c.place-item.result c.each-test.true c.place-item.is (subst P (sym listed) all))

pub each-preserved : goal.each-preserved
each-preserved c =
    let p = c.args.program.now in
    let equation = c.args.equation.now in
    let items = c.deref-place-items.result.now in
    let listed : map place_of items ≡ places_of p equation = ap (map place_of) c.deref-place-items.ensures.value ∙ c.in_ok-places.ensures.list in
    let here = c.in-Ok.ensures {u = tt} in (
      all_more (FitsAt p) place_of items c.each.place-index c.place-item.result c.each-test.true c.place-item.is c.each.invariant.0 here.1,
      tells_more (AreFewAt p) place_of items c.each.place-index c.place-item.result c.each-test.true c.place-item.is c.each.many c.in-Ok.here c.each.invariant.1 here.0,
    )

pub returns : goal.returns
returns c =
    let p = c.args.program.now in
    let equation = c.args.equation.now in
    let items = c.deref-place-items.result.now in
    let listed : map place_of items ≡ places_of p equation = ap (map place_of) c.deref-place-items.ensures.value ∙ c.in_ok-places.ensures.list in
    let end : c.each.place-index ≡ length items = omega arith in
    let all = ap (map place_of) (taken_all items c.each.place-index end) ∙ listed in
    let P : List Place → Type 0 = λ ps. All (FitsAt p) ps in
    let Q : List Place → Type 0 = λ ps. TellsMany (All (AreFewAt p) ps) c.each.many in
    (subst Q all c.each.invariant.1, subst P all c.each.invariant.0)
