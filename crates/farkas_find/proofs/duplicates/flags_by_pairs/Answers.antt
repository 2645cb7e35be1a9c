use Rattle.std.proofs.Common.{arith}
use Rattle.std.proofs.lemmas.Grind.{common_steps}
use Rattle.std.proofs.lemmas.List.FromFn.{map-range_with_len_more}
use Rattle.farkas_find.specs.Tidying.{stays}
use Rattle.farkas_find.proofs.duplicates.flags_by_pairs.Goals as goal

pub places-preserved : goal.places-preserved
places-preserved c = grind (arith, common_steps, map-range_with_len_more (stays c.args.rows.now) 0 c.places.place c.places.place (omega arith))
