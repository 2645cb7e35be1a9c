use Rattle.grammar_rules.proofs.LineLaws.{lines_are_one}
use Rattle.grammar_rules.proofs.line.lines_are_one.Goals as goal

pub returns : goal.returns
returns c = lines_are_one
