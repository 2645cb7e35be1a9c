use Rattle.std.proofs.Common.{◌≤◌, ◌+◌, take, sym, arith}
use Rattle.life_sets.specs.Cells.{same_cell}
use Rattle.order_sets.proofs.Making.{made_same, pushed, all_made}
use Rattle.target_map.specs.Kinds.{most_size}
use Rattle.life_sets.proofs.CellPlaces.{cell_more, cell_whole, item_has}
use Rattle.life_sets.proofs.same_cells.same_cell.Goals as goal

pub meets-requires : goal.meets-requires
meets-requires c = item_has (λ factor. factor ≤ most_size) c.args.factors.now c.places.place 0 (omega arith) c.requires

pub places-preserved : goal.places-preserved
places-preserved c =
    let factors = c.args.factors.now in
    let us = c.args.us.now in
    let vs = c.args.vs.now in
    let i = c.places.place in
    made_same _ (same_cell (take (i + 1) factors) (take (i + 1) us) (take (i + 1) vs)) c.push.new.self
    (sym (cell_more factors us vs i 0 c.index-us-place.result c.index-vs-place.result (omega arith) (omega arith) (omega arith) c.index-us-place.is c.index-vs-place.is))
    (pushed (same_cell (take i factors) (take i us) (take i vs)) _ c.places.all c.push.new.self c.in_ok-meets.field-0 c.in_ok-meets.ensures c.in_ok-push.ensures c.places.invariant)

pub returns : goal.returns
returns c =
    let factors = c.args.factors.now in
    let us = c.args.us.now in
    let vs = c.args.vs.now in
    let n = c.places.place in
    all_made (same_cell factors us vs) c.places.all c.all-2.result c.all-2.ensures
    (made_same (same_cell (take n factors) (take n us) (take n vs)) (same_cell factors us vs) c.places.all (cell_whole factors us vs n (omega arith)) c.places.invariant)
