use Rattle.show_grammar.proofs.Sentence.{shown_is_a_sentence}
use Rattle.show_grammar.proofs.shown_is_a_sentence.Goals as goal

pub returns : goal.returns
returns c = shown_is_a_sentence
