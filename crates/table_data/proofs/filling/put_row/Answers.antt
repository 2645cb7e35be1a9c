use Rattle.std.proofs.Common.{length}
use Rattle.csv.specs.Records.{fields_of}
use Rattle.table_data.proofs.PlacesFilled.{placed}
use Rattle.table_data.proofs.filling.put_row.Goals as goal

pub returns : goal.returns
returns c =
    placed (length c.args.point.now) c.args.points.now c.args.values.now c.put.new.values (fields_of c.args.fields.now) c.read_row.new.point c.in_ok-value.value c.put.result
    c.in_ok-value.ensures c.put.ensures
