use Rattle.std.proofs.Common.{[], List, ap₂}
use Rattle.az_lin.specs.Affine.{Affine}
use Rattle.formula_refute.specs.Claims.{Claim, all_of, claims}
use Rattle.order_sets.specs.NotBefore.{exceeds, each_pair, not_ahead, in_one_step}
use Rattle.order_sets.specs.Rows.{stamp_of}
use Rattle.order_sets.proofs.Making.{new_made, made_same, pushed, any_made}
use Rattle.order_sets.proofs.before.in_one_step.Goals as goal

pub returns : goal.returns
returns c =
    let u = stamp_of c.args.u.now in
    let v = stamp_of c.args.v.now in
    let sizes = c.args.sizes.now in
    let back : List Claim = each_pair exceeds u.band v.band in
    let last : Claim = all_of (claims (not_ahead sizes u v)) in
    any_made (in_one_step sizes u v) c.push.new.self c.any.result c.any.ensures
    (pushed back last c.push_each_pair.new.members c.push.new.self c.in_ok-not_ahead.field-0 c.in_ok-not_ahead.ensures c.in_ok-push.ensures
    (made_same (each_pair exceeds c.as_slice-first.result.now c.as_slice-second.result.now) back c.push_each_pair.new.members
    (ap₂ (λ (xs ys : List Affine). each_pair exceeds xs ys) c.as_slice-first.ensures.value c.as_slice-second.ensures.value)
    (c.in_ok-push_each_pair.ensures [] (new_made c.new-some.result c.new-some.ensures))))
