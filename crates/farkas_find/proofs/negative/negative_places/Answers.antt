use Rattle.std.proofs.Common.{arith}
use Rattle.std.proofs.lemmas.Grind.{common_steps}
use Rattle.std.proofs.lemmas.List.FromFn.{map-range_with_len_more}
use Rattle.farkas_find.specs.Choosing.{negative_place}
use Rattle.farkas_find.proofs.negative.negative_places.Goals as goal

pub places-preserved : goal.places-preserved
places-preserved c = grind (arith, common_steps, map-range_with_len_more (negative_place c.args.rows.now) 0 c.places.place c.places.place (omega arith))
