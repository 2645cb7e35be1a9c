use Rattle.std.proofs.Common.{◌∙◌, ap, sym, subst, refl, length, take}
use Rattle.std.proofs.lemmas.List.{take_all}
use Rattle.std.proofs.lemmas.List.Elements.{All-more, All-get_or, All-same}
use Rattle.az_lin.specs.Affine.{Affine, HasWidth}
use Rattle.az_lin.specs.RationalPoint.{IsWideAt, value_over}
use Rattle.farkas_find.specs.Tidying.{rounded}
use Rattle.farkas_find.specs.BackSubstitution.{point_in}
use Rattle.farkas_find.proofs.Placing.{wide_when_some, length-rounded}
use Rattle.farkas_find.proofs.back_substitute.evaluate.Goals as goal

pub value_over-requires : goal.value_over-requires
value_over-requires c =
    let given = c.args.given.now in
    let row = c.index-given-place.result in
    let W : Affine → Type 0 = HasWidth (length c.args.found.now.nums.items) in
    let wide : W row = subst W (sym c.index-given-place.is) (All-get_or W given c.given.place row c.given-test.true c.requires) in
    ap (λ r. length r.coefs) c.rounded-rounded.ensures.row ∙ length-rounded c.in_ok-from_row.field-0 ∙ ap (λ r. length r.coefs) c.in_ok-from_row.ensures.ok ∙ wide

pub given-preserved : goal.given-preserved
given-preserved c =
    let point = point_in c.args.found.now in
    let row = c.index-given-place.result in
    let P : Affine → Type 0 = λ r. IsWideAt point (rounded r) in
    let Q : Affine → Type 0 = IsWideAt point in
    let here = wide_when_some c.value_over.result (IsWideAt point c.rounded-rounded.result.row) (value_over c.rounded-rounded.result.row point) c.if-is_none.ensures c.value_over.ensures.exact in
    let one : P row = subst Q (c.rounded-rounded.ensures.row ∙ ap rounded c.in_ok-from_row.ensures.ok) here in
    All-more P c.args.given.now c.given.place row c.given-test.true c.given.invariant (subst P c.index-given-place.is one)

pub returns-clause-exact : goal.returns-clause-exact
returns-clause-exact c =
    let P : Affine → Type 0 = λ r. IsWideAt (point_in c.args.found.now) (rounded r) in
    let given = c.args.given.now in
    (λ _. All-same P given (take c.given.place given) (sym (take_all c.given.place given c.given-test.false)) c.given.invariant, λ _. refl)
