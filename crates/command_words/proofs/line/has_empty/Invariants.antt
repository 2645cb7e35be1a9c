use Rattle.std.proofs.Common.{◌≡◌, drop}
use Rattle.command_words.specs.Parsing.{has_empty}
use Rattle.command_words.specs.Words.{texts}
use Rattle.command_words.proofs.line.has_empty.Given as goal

abbrev pub invariant-loop-word : goal.invariant-loop-word
invariant-loop-word l = has_empty (texts (drop l.word-index l.words)) ≡ has_empty (texts l.words)
