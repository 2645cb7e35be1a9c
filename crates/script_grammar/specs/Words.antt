-- The words of commands, and those of the kinds of dimensions. No word is reserved: where a name is asked
-- for, every word may stand.
use Rattle.std.specs.Prelude.{ℕ, List, [], ◌∷◌, codes}
use Rattle.az_text.specs.declared.token.Token.{Token}
use Rattle.grammar_rules.specs.Tokens.{class_of}
use Rattle.script_grammar.specs.declared.words.CommandWord.{CommandWord}
use Rattle.script_grammar.specs.declared.words.CommandWord.TheVariants as word
use Rattle.script_grammar.specs.declared.words.KindWord.{KindWord}
use Rattle.script_grammar.specs.declared.words.KindWord.TheVariants as kind

abbrev pub reserved : List (List ℕ)
reserved = []

abbrev pub class : Token → ℕ
class = class_of reserved

abbrev pub command_words : List (List ℕ × CommandWord)
command_words =
    (codes "ReadAlphabets", word.ReadAlphabets) ∷ (codes "CheckProgram", word.CheckProgram) ∷ (codes "Show", word.Show) ∷ (codes "FindSchedule", word.FindSchedule)
    ∷ (codes "CoB", word.CoB) ∷ (codes "Normalize", word.Normalize) ∷ (codes "Inline", word.Inline) ∷ (codes "RemoveUnused", word.RemoveUnused)
    ∷ (codes "SimplifyReduction", word.SimplifyReduction) ∷ (codes "FactorReduction", word.FactorReduction) ∷ (codes "SplitReduction", word.SplitReduction)
    ∷ (codes "setDimensionKinds", word.SetDimensionKinds) ∷ (codes "setSpaceTimeMap", word.SetSpaceTimeMap) ∷ (codes "setMemoryMap", word.SetMemoryMap)
    ∷ (codes "setStatementOrder", word.SetStatementOrder) ∷ (codes "VerifyTargetMapping", word.VerifyTargetMapping) ∷ (codes "WriteCertificate", word.WriteCertificate)
    ∷ (codes "setParameter", word.SetParameter) ∷ (codes "ReadInput", word.ReadInput) ∷ (codes "Run", word.Run) ∷ (codes "Interleave", word.Interleave)
    ∷ (codes "ShowLoops", word.ShowLoops) ∷ (codes "RunLoops", word.RunLoops) ∷ (codes "SpreadReduce", word.SpreadReduce) ∷ []

abbrev pub kind_words : List (List ℕ × KindWord)
kind_words = (codes "O", kind.Outer) ∷ (codes "B", kind.Band) ∷ (codes "P", kind.Processor) ∷ (codes "I", kind.Inner) ∷ []
