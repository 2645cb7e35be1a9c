-- A script is read from the text of a file.
use Rattle.std.specs.Prelude.{◌≡◌, ℕ, List, Option, Some, None, Ok, Err}
use Rattle.az_text.specs.declared.fault.LexFault.TheVariants as lexical
use Rattle.command_script.specs.Answers.{IsScriptOf, IsAnswerOf}
use Rattle.command_script.specs.declared.fault.ScriptFault.{ScriptFault}
use Rattle.command_script.specs.declared.fault.ScriptFault.TheVariants as fault
use Rattle.script_grammar.specs.declared.command.Command.{Command}
use Rattle.session_state.specs.Steps.{Step}
use Rattle.session_state.specs.declared.refusal.Refusal.{Refusal}
use Rattle.session_state.specs.declared.refusal.Refusal.TheVariants.{Text, Limited}
use Rattle.session_state.specs.declared.refusal.TextKind.TheVariants.{Syntax, BadByte, WideNumber}
use Rattle.session_state.specs.declared.stop.Stop.TheVariants.{Refused, Fault, Memory}

-- why the text of a file is refused as a script; want of memory is no refusal
abbrev pub script_refusal : List ℕ → ScriptFault → Option Refusal
script_refusal file (fault.Lex (lexical.BadByte place)) = Some (Text file BadByte place)
script_refusal file (fault.Lex (lexical.WideNumber place)) = Some (Text file WideNumber place)
script_refusal file (fault.Lex lexical.Memory) = None
script_refusal file (fault.Syntax place) = Some (Text file Syntax place)
script_refusal file (fault.Limit limit) = Some (Limited limit)
script_refusal file fault.Memory = None

abbrev pub commands_in : List ℕ → List ℕ → Step (List Command)
commands_in file text (Ok commands) = IsScriptOf text commands
commands_in file text (Err (Refused refusal)) = (why : ScriptFault) × IsAnswerOf text (Err why) × (script_refusal file why ≡ Some refusal)
commands_in file text (Err (Fault call)) = ⊥
commands_in file text (Err Memory) = ⊥
