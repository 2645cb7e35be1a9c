use Rattle.data_commands.proofs.Answered.{table_stops}
use Rattle.data_commands.proofs.tables.table_in.Goals as goal

pub returns-in-Err : goal.returns-in-Err
returns-in-Err c =
    table_stops c.args.input.now c.args.domain.now c.args.values.now c.args.text.now c.in-Err.fault c.table_stop.result c.in-Err.ensures.answer c.table_stop.ensures
