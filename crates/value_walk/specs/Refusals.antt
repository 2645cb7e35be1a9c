-- The refusal of a walk where a box was refused.
use Rattle.loop_scan.specs.declared.fault.ScanFault.{ScanFault}
use Rattle.loop_scan.specs.declared.fault.ScanFault.TheVariants as scan
use Rattle.value_walk.specs.declared.refusal.EvalRefusal.{EvalRefusal}
use Rattle.value_walk.specs.declared.refusal.EvalRefusal.TheVariants.{Overflow, Entry, Limit, Memory}

abbrev pub refusal_of : ScanFault → EvalRefusal
refusal_of scan.Overflow = Overflow
refusal_of scan.Entry = Entry
refusal_of (scan.Limit limit) = Limit limit
refusal_of scan.Memory = Memory
