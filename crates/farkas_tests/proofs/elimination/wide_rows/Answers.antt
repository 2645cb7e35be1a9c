use Rattle.std.proofs.Common.{◌≡◌, length}
use Rattle.std.proofs.lemmas.List.Elements.{All-push}
use Rattle.farkas_find.specs.declared.wide.WideRow.{WideRow}
use Rattle.farkas_find.specs.Rows.{HasWideRow}
use Rattle.farkas_tests.proofs.elimination.wide_rows.Goals as goal

pub rows-preserved : goal.rows-preserved
rows-preserved c = record {
  range = rw c.in_ok-push.ensures.items (All-push HasWideRow c.rows.rows.items c.in_ok-wide_row.field-0 c.rows.invariant.range c.in_ok-wide_row.ensures.range);
  width = rw c.in_ok-push.ensures.items (All-push (λ (row : WideRow). length row.coefs ≡ 3) c.rows.rows.items c.in_ok-wide_row.field-0 c.rows.invariant.width c.in_ok-wide_row.ensures.width);
}
