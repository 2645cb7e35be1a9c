-- The stop of a fault of a mapping.
use Rattle.session_state.specs.declared.refusal.Refusal.TheVariants.{Command}
use Rattle.session_state.specs.declared.stop.Stop.{Stop}
use Rattle.session_state.specs.declared.stop.Stop.TheVariants as stop
use Rattle.target_map.specs.declared.fault.MapFault.{MapFault}
use Rattle.target_map.specs.declared.fault.MapFault.TheVariants.{Reason, Memory}

abbrev pub stop_of : MapFault → Stop
stop_of (Reason reason) = stop.Refused (Command reason)
stop_of Memory = stop.Memory
