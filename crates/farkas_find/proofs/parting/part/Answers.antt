use Rattle.std.proofs.Common.{◌∙◌, sym}
use Rattle.farkas_find.proofs.Parted.{kept_past, used_more}
use Rattle.farkas_find.proofs.parting.part.Goals as goal

pub rows-preserved-in-Continue-1 : goal.rows-preserved-in-Continue-1
rows-preserved-in-Continue-1 c =
    let has = sym c.has.ensures ∙ c.if-has.true in
    record {
      kept = kept_past c.args.column c.rows.kept.items c.rows.yielded c.in-Some.it has c.rows.invariant.kept;
      used = c.in_ok-push.ensures.items ∙ used_more c.args.column c.rows.used.items c.rows.yielded c.in-Some.it has c.rows.invariant.used;
    }
