-- What stops a run, from the answers of the calls; and what a script has.
use Rattle.std.proofs.Common.{ℕ, List}
use Rattle.std.specs.Prelude.{Err}
use Rattle.command_script.specs.Answers.{IsScriptOf, IsAnswerOf}
use Rattle.command_script.specs.declared.fault.ScriptFault.{ScriptFault}
use Rattle.script_files.specs.Commands.{script_refusal, commands_in}
use Rattle.script_files.specs.Places.{HasTokens}
use Rattle.script_grammar.specs.declared.command.Command.{Command}
use Rattle.session_state.specs.Steps.{TakesAlone, IsStopFor}
use Rattle.session_state.specs.declared.stop.Stop.{Stop}
use Rattle.session_state.specs.declared.stop.Stop.TheVariants.{Refused, Fault, Memory}

pub unread_stops : (file text : List ℕ) (why : ScriptFault) (stop : Stop) → IsAnswerOf text (Err why) → IsStopFor (script_refusal file why) stop → TakesAlone (commands_in file text) (Err stop)
unread_stops file text why (Refused refusal) h is = (why, h, is)
unread_stops file text why (Fault call) h is = absurd is
unread_stops file text why Memory h is = tt

-- a script has tokens
pub has_tokens : (text : List ℕ) (commands : List Command) → IsScriptOf text commands → HasTokens text
has_tokens text commands is = (is.read.0, is.read.1)
