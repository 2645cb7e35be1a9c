use Rattle.value_walk.proofs.PointPlaces.{points-rise, listed-found, found-get}
use Rattle.value_walk.proofs.place.place_of.Goals as goal

pub unreachable-requires : goal.unreachable-requires
unreachable-requires c =
    let points = c.args.points.now in
    let k = c.args.k.now in
    listed-found k points c.in-Err.field-0 (c.in-Err.ensures.place (points-rise k points c.requires.increasing)) c.requires.listed

pub returns : goal.returns
returns c = found-get c.args.k.now c.args.points.now c.in-Ok.place c.in-Ok.ensures.bound (c.in-Ok.ensures.place c.args.k.now)
