use Rattle.std.proofs.Common.{take}
use Rattle.std.specs.Prelude.{map}
use Rattle.std.specs.List.{AllZip}
use Rattle.command_words.specs.Bindings.{IsBinding}
use Rattle.command_words.proofs.evaluation.bindings_of.Given as goal

abbrev pub invariant-loop-word : goal.invariant-loop-word
invariant-loop-word l = AllZip IsBinding (map (λ word. word.now) (take l.word-index l.words)) l.bindings.items
