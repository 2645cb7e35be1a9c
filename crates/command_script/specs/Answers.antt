-- What is answered for the text of a script. Its tokens are read from left to right by the grammar, which has
-- the first fault; the limits come behind. Want of memory may stand for any answer.
use Rattle.std.specs.Prelude.{◌≡◌, ℕ, List, Result, Ok, Err, Some, None}
use Rattle.az_lin.specs.declared.limit.Limit.{Limit as LimitName}
use Rattle.grammar_rules.specs.declared.fault.TextFault.TheVariants as text
use Rattle.script_grammar.specs.declared.command.Command.{Command}
use Rattle.script_grammar.specs.Readings.{IsReadingOf}
use Rattle.command_script.specs.declared.fault.ScriptFault.{ScriptFault}
use Rattle.command_script.specs.declared.fault.ScriptFault.TheVariants.{Lex, Syntax, Limit, Memory}
use Rattle.command_script.specs.Limits.{limit_of}

-- the commands of a text
pub record IsScriptOf (bytes : List ℕ) (commands : List Command) : Type 0 where
  pub read : IsReadingOf bytes (Ok commands)
  pub within : limit_of commands ≡ None

-- a text that the grammar takes, with commands that exceed a limit
pub record IsOverLimit (bytes : List ℕ) (limit : LimitName) : Type 0 where
  pub commands : List Command
  pub read : IsReadingOf bytes (Ok commands)
  pub over : limit_of commands ≡ Some limit

abbrev pub IsAnswerOf : List ℕ → Result (List Command) ScriptFault → Type 0
IsAnswerOf bytes (Ok commands) = IsScriptOf bytes commands
IsAnswerOf bytes (Err (Lex fault)) = IsReadingOf bytes (Err (text.Lex fault))
IsAnswerOf bytes (Err (Syntax place)) = IsReadingOf bytes (Err (text.Syntax place))
IsAnswerOf bytes (Err (Limit limit)) = IsOverLimit bytes limit
IsAnswerOf bytes (Err Memory) = Unit {0}
