-- What is answered for the text of a script. No token weighs anything, so the grammar's limit of weight is 0
-- and never exceeded (`no_script_is_heavy`).
use Rattle.std.specs.Prelude.{ℕ, List, Result}
use Rattle.grammar_rules.specs.TextReadings as text
use Rattle.grammar_rules.specs.declared.fault.TextFault.{TextFault}
use Rattle.script_grammar.specs.declared.command.Command.{Command}
use Rattle.script_grammar.specs.Grammar.{script}

abbrev pub IsReadingOf : List ℕ → Result (List Command) TextFault → Type 0
IsReadingOf bytes result = text.IsReadingOf script 0 bytes result
