use Rattle.std.proofs.Common.{◌≡◌, length}
use Rattle.table_data.specs.Records.{records_of}
use Rattle.table_data.specs.Inner.Reading.{IsReading, left}
use Rattle.table_data.specs.Inner.Filling.{HasRead}
use Rattle.table_data.proofs.filling.filled.Given as goal

abbrev pub invariant-records : goal.invariant-records
invariant-records l = record {
  reading : IsReading l.reader;
  width : length l.point.items ≡ l.width;
  lengths : length l.values.items ≡ length l.points;
  read : HasRead l.width l.points l.values.items (records_of l.text) l.row (left l.reader);
}

abbrev pub decreases-records : goal.decreases-records
decreases-records l = length (left l.reader)
