use Rattle.alphabets_show.specs.Pieces.{comma}
use Rattle.alphabets_show.specs.Sides.{affine}
use Rattle.alphabets_show.proofs.Texts.{joined_bytes, then_ok, same_ok}
use Rattle.alphabets_show.proofs.sides.push_affines.Goals as goal

pub returns-in_ok-push_affine-in-len1-up : goal.returns-in_ok-push_affine-in-len1-up
returns-in_ok-push_affine-in-len1-up c = record {
  ok = same_ok _ _ _ _ _ (joined_bytes (affine c.args.params.now) comma c.args.rows.now c.first-item.result c.in-len1-up.len_at_least c.first-item.is)
      (then_ok _ _ _ _ _ _ c.in_ok-push_affine-in-len1-up.ensures.ok c.push_more_affines.ensures.ok);
}
