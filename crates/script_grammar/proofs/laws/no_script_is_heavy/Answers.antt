use Rattle.script_grammar.proofs.LawProofs.{no_script_is_heavy}
use Rattle.script_grammar.proofs.laws.no_script_is_heavy.Goals as goal

pub returns : goal.returns
returns c = no_script_is_heavy
