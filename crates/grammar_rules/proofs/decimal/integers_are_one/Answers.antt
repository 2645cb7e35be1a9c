use Rattle.grammar_rules.proofs.DecimalLaws.{integers_are_one}
use Rattle.grammar_rules.proofs.decimal.integers_are_one.Goals as goal

pub returns : goal.returns
returns c = integers_are_one
