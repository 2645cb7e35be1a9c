use Rattle.std.proofs.Common.{[], ◌∷◌, ◌++◌, List, ap₂, append_assoc}
use Rattle.az_lin.specs.Affine.{Affine}
use Rattle.formula_refute.specs.Claims.{Claim, any_of, claims}
use Rattle.order_sets.specs.NotBefore.{is_within, each_pair, unit_at_least, beside, not_ahead}
use Rattle.order_sets.specs.Rows.{stamp_of}
use Rattle.order_sets.proofs.Making.{new_made, made_same, pushed, all_made}
use Rattle.order_sets.proofs.before.not_ahead.Goals as goal

pub returns : goal.returns
returns c =
    let u = stamp_of c.args.u.now in
    let v = stamp_of c.args.v.now in
    let sizes = c.args.sizes.now in
    let within : List Claim = each_pair is_within u.band v.band in
    let units : List Claim = unit_at_least sizes u.band v.band in
    let last : Claim = any_of (claims (beside u v)) in
    let first = c.as_slice-first.result.now in
    let second = c.as_slice-second.result.now in
    all_made (not_ahead sizes u v) c.push.new.self c.all-2.result c.all-2.ensures
    (made_same ((within ++ units) ++ last ∷ []) (not_ahead sizes u v) c.push.new.self (append_assoc within units (last ∷ []))
    (pushed (within ++ units) last c.push_units.new.members c.push.new.self c.in_ok-beside.field-0 c.in_ok-beside.ensures c.in_ok-push.ensures
    (made_same (each_pair is_within first second ++ unit_at_least sizes first second) (within ++ units) c.push_units.new.members
    (ap₂ (λ (xs ys : List Affine). each_pair is_within xs ys ++ unit_at_least sizes xs ys) c.as_slice-first.ensures.value c.as_slice-second.ensures.value)
    (c.in_ok-push_units.ensures (each_pair is_within first second) (c.in_ok-push_each_pair.ensures [] (new_made c.new-all.result c.new-all.ensures))))))
