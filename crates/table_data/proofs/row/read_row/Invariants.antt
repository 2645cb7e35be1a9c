use Rattle.csv.specs.Records.{fields_of}
use Rattle.table_data.proofs.RecordRows.{SayBefore}
use Rattle.table_data.proofs.row.read_row.Given as goal

abbrev pub invariant-indices : goal.invariant-indices
invariant-indices l = SayBefore (fields_of l.fields) l.point l.index
