use Rattle.alphabets_read.proofs.Once.{one_answer}
use Rattle.alphabets_read.proofs.reader.read_program.Goals as goal

pub returns-clause-only : goal.returns-clause-only
returns-clause-only c = λ other is differs here. one_answer c.args.text.now c.read.result other c.read.ensures.answer is here differs
