use Rattle.command_script.proofs.Once.{one_answer}
use Rattle.command_script.proofs.reader.read_script.Goals as goal

pub returns-clause-only : goal.returns-clause-only
returns-clause-only c = λ other is differs here. one_answer c.args.text.now c.read.result other c.read.ensures is here differs
