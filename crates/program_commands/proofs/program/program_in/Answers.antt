use Rattle.program_commands.proofs.Stops.{unread_stops}
use Rattle.program_commands.proofs.program.program_in.Goals as goal

pub returns-in-Err : goal.returns-in-Err
returns-in-Err c = unread_stops c.args.file.now c.args.text.now c.in-Err.fault c.unread.result c.in-Err.ensures.answer c.unread.ensures
