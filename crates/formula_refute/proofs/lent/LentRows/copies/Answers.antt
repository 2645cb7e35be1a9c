use Rattle.formula_refute.proofs.Taken.{taken_more}
use Rattle.formula_refute.proofs.lent.LentRows.copies.Goals as goal

pub copies-preserved : goal.copies-preserved
copies-preserved c =
    let items = c.as_slice-row-items.result.now in
    let more = taken_more (λ row. row.now) items c.copies.row-index c.row-item.result c.copies-test.true c.row-item.is in
    let pushed = c.in_ok-push.ensures.items in
    let copied = c.in_ok-copied.ensures.ok in
    let so_far = c.copies.invariant in
    cc
