use Rattle.std.proofs.Common.{◌+◌, [], ◌∷◌, ◌++◌, take, sym, arith}
use Rattle.formula_refute.specs.Claims.{Claim, all_of, claims}
use Rattle.order_sets.specs.Made.{IsMade}
use Rattle.order_sets.specs.NotBefore.{both_ways, greater, each_pair, less_after}
use Rattle.order_sets.proofs.Making.{made_same, pushed, any_made}
use Rattle.order_sets.proofs.Places.{less_next, less_whole}
use Rattle.order_sets.proofs.pair.less.Goals as goal

pub places-preserved : goal.places-preserved
places-preserved c =
    let us = c.args.us.now in
    let vs = c.args.vs.now in
    let i = c.places.place in
    let u = c.index-us-place.result in
    let v = c.index-vs-place.result in
    let here : Claim = all_of (claims (each_pair both_ways (take i us) (take i vs) ++ greater v u ∷ [])) in
    let made : IsMade here c.in_ok-less_at.field-0 = c.in_ok-less_at.ensures in
    made_same (less_after [] (take i us) (take i vs) ++ here ∷ []) (less_after [] (take (i + 1) us) (take (i + 1) vs)) c.push.new.self
    (sym (less_next us vs i u v (omega arith) (omega arith) c.index-us-place.is c.index-vs-place.is))
    (pushed (less_after [] (take i us) (take i vs)) here c.places.places c.push.new.self c.in_ok-less_at.field-0 made c.in_ok-push.ensures c.places.invariant)

pub returns : goal.returns
returns c =
    let us = c.args.us.now in
    let vs = c.args.vs.now in
    let n = c.places.place in
    any_made (less_after [] us vs) c.places.places c.any.result c.any.ensures
    (made_same (less_after [] (take n us) (take n vs)) (less_after [] us vs) c.places.places (less_whole us vs n (omega arith)) c.places.invariant)
