use Rattle.script_grammar.proofs.LawProofs.{numbers_stay}
use Rattle.script_grammar.proofs.laws.numbers_stay_as_they_are.Goals as goal

pub returns : goal.returns
returns c = numbers_stay
