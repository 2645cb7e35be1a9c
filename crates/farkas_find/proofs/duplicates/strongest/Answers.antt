use Rattle.std.proofs.Common.{◌≡◌, arith, map, ap, sym, ◌∙◌, length}
use Rattle.std.specs.List.{zip, items_where_true, range_with_len}
use Rattle.std.proofs.lemmas.Grind.{common_steps}
use Rattle.std.proofs.lemmas.Iterator.{YieldsList-from_zip}
use Rattle.std.proofs.lemmas.Iterator.Adapters.{YieldsList-from_vec}
use Rattle.std.proofs.lemmas.Iterator.Consumers.{YieldsList-end}
use Rattle.farkas_find.specs.Tidying.{strongest, stays}
use Rattle.farkas_find.proofs.Kept.{map_same, flagged, flagged-push, flagged-zip}
use Rattle.farkas_find.proofs.duplicates.strongest.Goals as goal

pub rows-preserved-in-Continue-branch-3 : goal.rows-preserved-in-Continue-branch-3
rows-preserved-in-Continue-branch-3 c =
    rw (flagged-push c.rows.yielded c.in-Some.row c.in-Some.stays) (grind (arith, common_steps, c.in_ok-push.ensures.items))

pub rows-preserved-else-stays : goal.rows-preserved-else-stays
rows-preserved-else-stays c =
    rw (flagged-push c.rows.yielded c.in-Some.row c.in-Some.stays) (grind (arith, common_steps))

pub rows-preserved : goal.rows-preserved
rows-preserved c =
    rw (flagged-push c.rows.yielded c.in-Some.row c.in-Some.stays) (grind (arith, common_steps))

pub returns : goal.returns
unfolding strongest
returns c =
    let whole = YieldsList-end (YieldsList-from_zip (YieldsList-from_vec c.args.rows.items (cc) (cc)) (YieldsList-from_vec c.in_ok-flags.flags.items (cc) (cc))) c.rows.yielded c.rows.row-iterator c.rows.yielded_by c.next.result c.next.new.self c.in-None.is c.next.ensures.steps in
    let same : c.rows.yielded ≡ zip c.args.rows.items c.in_ok-flags.flags.items = sym (map_same c.rows.yielded) ∙ whole.0 in
    let flags_are : c.in_ok-flags.flags.items ≡ map (stays c.args.rows.items) (range_with_len 0 (length c.args.rows.items)) = (rw c.as_slice.ensures.value at c.in_ok-flags.ensures) in
    c.rows.invariant ∙ ap flagged same ∙ flagged-zip c.args.rows.items c.in_ok-flags.flags.items ∙ ap (λ bs. items_where_true bs c.args.rows.items) flags_are
