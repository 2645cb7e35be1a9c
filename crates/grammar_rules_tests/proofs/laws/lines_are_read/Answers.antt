use Rattle.grammar_rules_tests.proofs.SumRules.{lines_are_read}
use Rattle.grammar_rules_tests.proofs.laws.lines_are_read.Goals as goal

pub returns : goal.returns
returns c = lines_are_read
