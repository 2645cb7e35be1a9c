use Rattle.std.proofs.Common.{[], List, ap₂}
use Rattle.az_lin.specs.Affine.{Affine}
use Rattle.formula_refute.specs.Claims.{Claim}
use Rattle.order_sets.specs.NotBefore.{apart, each_pair, equal, less, beside}
use Rattle.order_sets.specs.Rows.{stamp_of}
use Rattle.order_sets.proofs.Making.{new_made, made_same, claim_same, pushed_two, any_made}
use Rattle.order_sets.proofs.before.beside.Goals as goal

pub returns : goal.returns
returns c =
    let u = stamp_of c.args.u.now in
    let v = stamp_of c.args.v.now in
    let others : List Claim = each_pair apart u.processor v.processor in
    any_made (beside u v) c.push-2.new.self c.any.result c.any.ensures
    (pushed_two others (less v.tile u.tile) (equal u.tile v.tile) c.push_each_pair.new.members c.push.new.self c.push-2.new.self c.in_ok-less.field-0 c.in_ok-equal.field-0
    (claim_same (less c.as_slice-second-2.result.now c.as_slice-first-2.result.now) (less v.tile u.tile) c.in_ok-less.field-0
    (ap₂ (λ (xs ys : List Affine). less xs ys) c.as_slice-second-2.ensures.value c.as_slice-first-2.ensures.value) c.in_ok-less.ensures)
    c.in_ok-push.ensures
    (claim_same (equal c.as_slice-first-2.result.now c.as_slice-second-2.result.now) (equal u.tile v.tile) c.in_ok-equal.field-0
    (ap₂ (λ (xs ys : List Affine). equal xs ys) c.as_slice-first-2.ensures.value c.as_slice-second-2.ensures.value) c.in_ok-equal.ensures)
    c.in_ok-push-2.ensures
    (made_same (each_pair apart c.as_slice-first.result.now c.as_slice-second.result.now) others c.push_each_pair.new.members
    (ap₂ (λ (xs ys : List Affine). each_pair apart xs ys) c.as_slice-first.ensures.value c.as_slice-second.ensures.value)
    (c.in_ok-push_each_pair.ensures [] (new_made c.new-some.result c.new-some.ensures))))
