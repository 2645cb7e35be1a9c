-- The answer of a run, by how it ended.
use Rattle.std.specs.Prelude.{Ok, Err}
use Rattle.az_desk.specs.declared.call.Call.TheVariants.{Read, Write, Say}
use Rattle.session_state.specs.Endings.{Ending}
use Rattle.session_state.specs.declared.refusal.Refusal.{Refusal}
use Rattle.session_state.specs.declared.refusal.Refusal.TheVariants as refusal
use Rattle.session_state.specs.declared.stop.Stop.TheVariants as stop
use Rattle.alphaz_cli.specs.declared.status.Outcome.{Outcome}
use Rattle.alphaz_cli.specs.declared.status.Outcome.TheVariants.{Done, Usage, ReadFault, WriteFault, Text, Shape, ProgramNo, Command, MappingNo, Overflow, Limited, BadTable, Memory, Certificate, Cycle}

abbrev pub outcome_of_refusal : Refusal → Outcome
outcome_of_refusal refusal.Usage = Usage
outcome_of_refusal (refusal.Text file kind place) = Text file kind place
outcome_of_refusal (refusal.Shape kind item) = Shape kind item
outcome_of_refusal (refusal.ProgramNo kind variable number point) = ProgramNo kind variable number point
outcome_of_refusal (refusal.Command reason) = Command reason
outcome_of_refusal (refusal.MappingNo formula number point) = MappingNo formula number point
outcome_of_refusal (refusal.Overflow spot) = Overflow spot
outcome_of_refusal (refusal.Limited limit) = Limited limit
outcome_of_refusal (refusal.BadTable input row kind) = BadTable input row kind
outcome_of_refusal (refusal.Certificate spot) = Certificate spot
outcome_of_refusal (refusal.Cycle chain names) = Cycle chain

abbrev pub outcome : Ending → Outcome
outcome (Ok _) = Done
outcome (Err (stop.Refused why)) = outcome_of_refusal why
outcome (Err (stop.Fault (Read name))) = ReadFault name
outcome (Err (stop.Fault (Write name))) = WriteFault
outcome (Err (stop.Fault Say)) = WriteFault
outcome (Err stop.Memory) = Memory
