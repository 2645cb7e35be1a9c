use Rattle.farkas_find.proofs.Paired.{length-all_pairs}
use Rattle.farkas_find.proofs.counting.count_all_pairs.Goals as goal

pub returns : goal.returns
returns c = rw (length-all_pairs c.args.column c.args.rows.now, ← c.count_with-pluses.ensures.value, ← c.count_with-minuses.ensures.value) c.pairs_of_counts.ensures
