-- The statuses: of a refusal, and of a run that stopped.
use Rattle.std.specs.Prelude.{ℕ, Result, Ok, Err}
use Rattle.az_desk.specs.declared.call.Call.TheVariants.{Read, Write, Say}
use Rattle.session_state.specs.declared.refusal.Refusal.{Refusal}
use Rattle.session_state.specs.declared.refusal.Refusal.TheVariants.{Usage, Text, Shape, ProgramNo, Command, MappingNo, Overflow, Limited, BadTable, Certificate, Cycle}
use Rattle.session_state.specs.declared.stop.Stop.{Stop}
use Rattle.session_state.specs.declared.stop.Stop.TheVariants.{Refused, Fault, Memory}

abbrev pub code : Refusal → ℕ
code Usage = 2
code (Text file kind place) = 5
code (Shape kind item) = 6
code (ProgramNo kind variable number point) = 7
code (Command reason) = 8
code (MappingNo formula number point) = 9
code (Overflow spot) = 10
code (Limited limit) = 11
code (BadTable input row kind) = 12
code (Certificate spot) = 14
code (Cycle chain names) = 15

-- of a run, by how it ends
abbrev pub status : Result (Unit {0}) Stop → ℕ
status (Ok _) = 0
status (Err (Refused refusal)) = code refusal
status (Err (Fault (Read name))) = 3
status (Err (Fault (Write name))) = 4
status (Err (Fault Say)) = 4
status (Err Memory) = 13
