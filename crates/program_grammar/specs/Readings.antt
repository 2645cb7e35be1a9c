-- What is answered for the text of a program, with names as written: the grammar's limit of weight is 0.
use Rattle.std.specs.Prelude.{ℕ, List, Result}
use Rattle.grammar_rules.specs.TextReadings as text
use Rattle.grammar_rules.specs.declared.fault.TextFault.{TextFault}
use Rattle.program_grammar.specs.declared.tree.ProgramText.{ProgramText}
use Rattle.program_grammar.specs.Grammar.{program}

abbrev pub IsReadingOf : List ℕ → Result ProgramText TextFault → Type 0
IsReadingOf bytes result = text.IsReadingOf program 0 bytes result
