use Rattle.program_grammar.proofs.PrintedRules.{printed_rules_are_same}
use Rattle.program_grammar.proofs.laws.printed_rules_are_same.Goals as goal

pub returns : goal.returns
returns c = printed_rules_are_same
