use Rattle.table_data.proofs.PlaceSearch.{points-rise, listed-found, found-get}
use Rattle.table_data.proofs.place.place_of.Goals as goal

pub returns-in-Ok : goal.returns-in-Ok
returns-in-Ok c =
    (c.in-Ok.ensures.bound, found-get c.args.point.now c.args.points.now c.in-Ok.place c.in-Ok.ensures.bound (c.in-Ok.ensures.place c.args.point.now))

pub returns-in-Err : goal.returns-in-Err
returns-in-Err c =
    listed-found c.args.point.now c.args.points.now c.in-Err.field-0 (c.in-Err.ensures.place (points-rise c.args.point.now c.args.points.now c.requires))
