use Rattle.std.proofs.Common.{◌≡◌, arith, length}
use Rattle.az_lin.specs.Affine.{Affine}
use Rattle.az_text.specs.declared.mark.MarkKind.TheVariants.{AndAnd}
use Rattle.alphabets_show.specs.Pieces.{spaced}
use Rattle.alphabets_show.specs.Sides.{comparison}
use Rattle.alphabets_show.proofs.Texts.{item_more, all_written, further_two}
use Rattle.alphabets_show.proofs.domains.push_more_rows.Goals as goal

pub loop-row-preserved : goal.loop-row-preserved
loop-row-preserved c =
    let step = item_more (λ (row : Affine). spaced AndAnd (comparison c.args.params.now row)) c.args.rows.now c.loop-row.row-index c.row-item.result c.loop-row-test.true c.row-item.is in
    further_two _ _ _ _ _ _ _ _ c.loop-row.invariant c.in_ok-push_str.ensures.bytes c.in_ok-push_comparison.ensures.ok step

pub returns : goal.returns
returns c =
    let end : c.loop-row.row-index ≡ length c.args.rows.now = omega arith in
    record { ok = all_written (λ (row : Affine). spaced AndAnd (comparison c.args.params.now row)) c.args.rows.now c.loop-row.row-index _ _ end c.loop-row.invariant }
