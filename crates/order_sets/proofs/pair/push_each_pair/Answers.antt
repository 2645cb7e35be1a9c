use Rattle.std.proofs.Common.{◌+◌, [], ◌++◌, List, take, ap, sym, ◌∙◌, arith, append_assoc, append-nil}
use Rattle.formula_refute.specs.Claims.{Claim}
use Rattle.order_sets.specs.NotBefore.{each_pair}
use Rattle.order_sets.specs.Pairs.{rows_of}
use Rattle.order_sets.proofs.Making.{made_same}
use Rattle.order_sets.proofs.Places.{each_next, each_whole}
use Rattle.order_sets.proofs.pair.push_each_pair.Goals as goal

pub places-init : goal.places-init
places-init c = λ cs so_far. made_same cs (cs ++ []) c.args.members.now (sym (append-nil cs)) so_far

pub places-preserved : goal.places-preserved
places-preserved c = λ cs so_far.
    let f = rows_of c.args.pair in
    let us = c.args.us.now in
    let vs = c.args.vs.now in
    let i = c.places.place in
    let u = c.index-us-place.result in
    let v = c.index-vs-place.result in
    let done : List Claim = each_pair f (take i us) (take i vs) in
    made_same ((cs ++ done) ++ f u v) (cs ++ each_pair f (take (i + 1) us) (take (i + 1) vs)) c.push_pair.new.members
    (append_assoc cs done (f u v) ∙ ap (λ (ds : List Claim). cs ++ ds) (sym (each_next f us vs i u v (omega arith) (omega arith) c.index-us-place.is c.index-vs-place.is)))
    (c.in_ok-push_pair.ensures (cs ++ done) (c.places.invariant cs so_far))

pub returns : goal.returns
returns c = λ cs so_far.
    let f = rows_of c.args.pair in
    let us = c.args.us.now in
    let vs = c.args.vs.now in
    let n = c.places.place in
    made_same (cs ++ each_pair f (take n us) (take n vs)) (cs ++ each_pair f us vs) c.places.members
    (ap (λ (ds : List Claim). cs ++ ds) (each_whole f us vs n (omega arith))) (c.places.invariant cs so_far)
