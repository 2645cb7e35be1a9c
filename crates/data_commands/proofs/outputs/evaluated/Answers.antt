use Rattle.data_commands.proofs.Answered.{has_rows}
use Rattle.data_commands.proofs.outputs.evaluated.Goals as goal

pub returns-in-Ok-write_outputs : goal.returns-in-Ok-write_outputs
returns-in-Ok-write_outputs c =
    has_rows c.args.checked.now c.args.inputs.now c.args.values.now c.program-program.result.now c.program-program.ensures.value c.in-Ok.meanings c.in-Ok-write_outputs.rows
    c.in-Ok.ensures c.in-Ok-write_outputs.ensures.rows
