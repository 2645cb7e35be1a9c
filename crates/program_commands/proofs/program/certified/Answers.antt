use Rattle.program_commands.proofs.Stops.{uncertified_stops}
use Rattle.program_commands.proofs.program.certified.Goals as goal

pub returns-in-Err : goal.returns-in-Err
returns-in-Err c =
    uncertified_stops c.args.program c.in-Err.program c.in-Err.fault c.uncertified.result c.in-Err.ensures.answer.0 c.in-Err.ensures.answer.1 c.uncertified.ensures
