use Rattle.std.proofs.Common.{◌≡◌, arith, length}
use Rattle.az_lin.specs.Affine.{Affine}
use Rattle.alphabets_show.specs.Pieces.{comma}
use Rattle.alphabets_show.specs.Sides.{affine}
use Rattle.alphabets_show.proofs.Texts.{item_more, all_written, further_two}
use Rattle.alphabets_show.proofs.sides.push_more_affines.Goals as goal

pub loop-row-preserved : goal.loop-row-preserved
loop-row-preserved c =
    let step = item_more (λ (row : Affine). comma (affine c.args.params.now row)) c.args.rows.now c.loop-row.row-index c.row-item.result c.loop-row-test.true c.row-item.is in
    further_two _ _ _ _ _ _ _ _ c.loop-row.invariant c.in_ok-push_str.ensures.bytes c.in_ok-push_affine.ensures.ok step

pub returns : goal.returns
returns c =
    let end : c.loop-row.row-index ≡ length c.args.rows.now = omega arith in
    record { ok = all_written (λ (row : Affine). comma (affine c.args.params.now row)) c.args.rows.now c.loop-row.row-index _ _ end c.loop-row.invariant }
