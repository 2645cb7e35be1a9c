use Rattle.std.proofs.Common.{[], ◌∷◌, List, ap₂}
use Rattle.az_lin.specs.Affine.{Affine}
use Rattle.formula_refute.specs.Claims.{Claim, any_of, claims}
use Rattle.order_sets.specs.NotBefore.{equal, in_one_step}
use Rattle.order_sets.specs.Rows.{stamp_of}
use Rattle.order_sets.proofs.Making.{new_made, claim_same, pushed_two, all_made}
use Rattle.order_sets.proofs.before.at_one_step.Goals as goal

pub returns : goal.returns
returns c =
    let u = stamp_of c.args.u.now in
    let v = stamp_of c.args.v.now in
    let same : Claim = equal u.outer v.outer in
    let last : Claim = any_of (claims (in_one_step c.args.sizes.now u v)) in
    all_made (same ∷ last ∷ []) c.push-2.new.self c.all-2.result c.all-2.ensures
    (pushed_two [] same last c.new-all.result c.push.new.self c.push-2.new.self c.in_ok-equal.field-0 c.in_ok-in_one_step.field-0
    (claim_same (equal c.as_slice-first.result.now c.as_slice-second.result.now) same c.in_ok-equal.field-0
    (ap₂ (λ (xs ys : List Affine). equal xs ys) c.as_slice-first.ensures.value c.as_slice-second.ensures.value) c.in_ok-equal.ensures)
    c.in_ok-push.ensures c.in_ok-in_one_step.ensures c.in_ok-push-2.ensures (new_made c.new-all.result c.new-all.ensures))
