use Rattle.az_text.proofs.Given.{answers_read, answers_only, answers_in}
use Rattle.az_text.proofs.lexer.lex.Goals as goal

pub returns-clause-found : goal.returns-clause-found
returns-clause-found c = answers_read c.args.text.now c.tokens_of.result c.tokens_of.ensures

pub returns-clause-only : goal.returns-clause-only
returns-clause-only c = λ answer reads. answers_only c.args.text.now c.tokens_of.result answer c.tokens_of.ensures reads

pub returns-clause-spans : goal.returns-clause-spans
returns-clause-spans c = answers_in c.args.text.now c.tokens_of.result c.tokens_of.ensures
