use Rattle.row_columns.proofs.Made.{unit_rows-more}
use Rattle.row_columns.proofs.keep.push_unit_rows.Goals as goal

pub columns-preserved : goal.columns-preserved
columns-preserved c =
    unit_rows-more c.args.width c.args.columns.now.place c.columns.number c.args.rows.now.items c.columns.rows.items c.push.new.self.items c.in_ok-unit_row.field-0
    c.columns.invariant c.in_ok-unit_row.ensures.ok c.in_ok-push.ensures.items
