use Rattle.std.proofs.Common.{[], ◌∷◌, List, ap₂}
use Rattle.az_lin.specs.Affine.{Affine}
use Rattle.formula_refute.specs.Claims.{Claim, all_of, any_of, claims}
use Rattle.order_sets.specs.NotBefore.{equal, less, in_one_step}
use Rattle.order_sets.specs.Rows.{stamp_of}
use Rattle.order_sets.proofs.Making.{new_made, claim_same, pushed_two, any_made}
use Rattle.order_sets.proofs.before.not_before.Goals as goal

pub returns : goal.returns
returns c =
    let u = stamp_of c.args.u.now in
    let v = stamp_of c.args.v.now in
    let later : Claim = less v.outer u.outer in
    let at_once : Claim = all_of (claims (equal u.outer v.outer ∷ any_of (claims (in_one_step c.args.sizes.now u v)) ∷ [])) in
    any_made (later ∷ at_once ∷ []) c.push-2.new.self c.any.result c.any.ensures
    (pushed_two [] later at_once c.new-some.result c.push.new.self c.push-2.new.self c.in_ok-less.field-0 c.in_ok-at_one_step.field-0
    (claim_same (less c.as_slice-second.result.now c.as_slice-first.result.now) later c.in_ok-less.field-0
    (ap₂ (λ (xs ys : List Affine). less xs ys) c.as_slice-second.ensures.value c.as_slice-first.ensures.value) c.in_ok-less.ensures)
    c.in_ok-push.ensures c.in_ok-at_one_step.ensures c.in_ok-push-2.ensures (new_made c.new-some.result c.new-some.ensures))
