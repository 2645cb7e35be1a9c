use Rattle.std.proofs.Common.{◌∙◌, ap, List}
use Rattle.az_lin.specs.Affine.{Affine}
use Rattle.az_text.specs.Lumps.{bytes_of}
use Rattle.az_text.specs.declared.mark.MarkKind.TheVariants.{AndAnd}
use Rattle.alphabets_show.specs.Pieces.{spaced, joined}
use Rattle.alphabets_show.specs.Sides.{comparison}
use Rattle.alphabets_show.proofs.Texts.{joined_bytes, then_ok, same_ok}
use Rattle.alphabets_show.proofs.domains.push_conjunction.Goals as goal

pub returns-in_ok-push_comparison-in-len1-up : goal.returns-in_ok-push_comparison-in-len1-up
returns-in_ok-push_comparison-in-len1-up c =
    let shown = comparison c.args.params.now in
    record {
      ok = same_ok _ _ _ _ _
          (joined_bytes shown (spaced AndAnd) c.rows.result.now c.first-item.result c.in-len1-up.len_at_least c.first-item.is
          ∙ ap (λ (rows : List Affine). bytes_of (joined shown (spaced AndAnd) rows)) c.rows.ensures.value)
          (then_ok _ _ _ _ _ _ c.in_ok-push_comparison-in-len1-up.ensures.ok c.push_more_rows.ensures.ok);
    }
