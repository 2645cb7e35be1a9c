use Rattle.std.proofs.Common.{arith, length}
use Rattle.csv.specs.Records.{fields_of}
use Rattle.table_data.proofs.RecordRows.{row_read}
use Rattle.table_data.proofs.row.read_row.Goals as goal

pub returns : goal.returns
returns c =
    row_read (length c.args.point.now) (fields_of c.args.fields.now) c.indices.point (omega arith) (omega arith)
    (λ k h. c.indices.invariant k (omega (arith, h))) c.number_at-2.result c.number_at-2.ensures
