use Rattle.std.proofs.Common.{◌+◌, [], ◌++◌, List, take, ap, sym, ◌∙◌, arith, append_assoc, append-nil}
use Rattle.formula_refute.specs.Claims.{Claim}
use Rattle.order_sets.specs.NotBefore.{unit_at_least}
use Rattle.order_sets.proofs.Making.{made_same}
use Rattle.order_sets.proofs.Places.{unit_more, unit_whole}
use Rattle.order_sets.proofs.before.push_units.Goals as goal

pub places-init : goal.places-init
places-init c = λ cs so_far. made_same cs (cs ++ []) c.args.members.now (sym (append-nil cs)) so_far

pub places-preserved : goal.places-preserved
places-preserved c = λ cs so_far.
    let sizes = c.args.sizes.now in
    let us = c.args.us.now in
    let vs = c.args.vs.now in
    let i = c.places.place in
    let done : List Claim = unit_at_least (take i sizes) (take i us) (take i vs) in
    made_same _ (cs ++ unit_at_least (take (i + 1) sizes) (take (i + 1) us) (take (i + 1) vs)) c.push_unit.new.members
    (append_assoc cs done _
    ∙ ap (λ (ds : List Claim). cs ++ ds) (sym (unit_more sizes us vs i 0 c.index-us-place.result c.index-vs-place.result (omega arith) (omega arith) (omega arith) c.index-us-place.is c.index-vs-place.is)))
    (c.in_ok-push_unit.ensures (cs ++ done) (c.places.invariant cs so_far))

pub returns : goal.returns
returns c = λ cs so_far.
    let sizes = c.args.sizes.now in
    let us = c.args.us.now in
    let vs = c.args.vs.now in
    let n = c.places.place in
    made_same (cs ++ unit_at_least (take n sizes) (take n us) (take n vs)) (cs ++ unit_at_least sizes us vs) c.places.members
    (ap (λ (ds : List Claim). cs ++ ds) (unit_whole sizes us vs n (omega arith))) (c.places.invariant cs so_far)
