use Rattle.std.proofs.Common.{◌∙◌, sym}
use Rattle.table_data.proofs.PlaceSearch.{stands}
use Rattle.table_data.proofs.place.stands_at.Goals as goal

pub returns-in-Some : goal.returns-in-Some
returns-in-Some c h =
    stands c.args.points.now c.args.place c.in-Some.other.now c.args.point.now (sym c.in-Some.ensures) (sym (c.is_eq.ensures ∙ cc) ∙ h)
