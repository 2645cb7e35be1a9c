use Rattle.command_words.proofs.Cuts.{no_binding}
use Rattle.command_words.proofs.binding.binding_of.Goals as goal

pub returns-in-None-clause-none : goal.returns-in-None-clause-none
returns-in-None-clause-none c = no_binding c.args.word.now c.in_default.ensures.none c.in-None.ensures.none
