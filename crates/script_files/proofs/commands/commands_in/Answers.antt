use Rattle.script_files.proofs.Stops.{unread_stops}
use Rattle.script_files.proofs.commands.commands_in.Goals as goal

pub returns-in-Err : goal.returns-in-Err
returns-in-Err c = unread_stops c.args.file.now c.args.text.now c.in-Err.fault c.unread.result c.in-Err.ensures.answer c.unread.ensures
