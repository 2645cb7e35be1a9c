use Rattle.grammar_rules.proofs.DecimalLaws.{naturals_are_one}
use Rattle.grammar_rules.proofs.decimal.naturals_are_one.Goals as goal

pub returns : goal.returns
returns c = naturals_are_one
