use Rattle.az_text.specs.declared.mark.MarkKind.TheVariants.{BarBar}
use Rattle.alphabets_show.specs.Pieces.{spaced}
use Rattle.alphabets_show.specs.Sides.{conjunction}
use Rattle.alphabets_show.proofs.Texts.{joined_bytes, then_ok, same_ok}
use Rattle.alphabets_show.proofs.domains.push_disjunction.Goals as goal

pub returns-in_ok-push_conjunction-in-len1-up : goal.returns-in_ok-push_conjunction-in-len1-up
returns-in_ok-push_conjunction-in-len1-up c = record {
  ok = same_ok _ _ _ _ _ (joined_bytes (conjunction c.args.params.now) (spaced BarBar) c.args.disjuncts.now c.first-item.result c.in-len1-up.len_at_least c.first-item.is)
      (then_ok _ _ _ _ _ _ c.in_ok-push_conjunction-in-len1-up.ensures.ok c.push_more_disjuncts.ensures.ok);
}
