-- The refusals of a scan, as they are handed on.
use Rattle.loop_scan.specs.declared.fault.ScanFault.{ScanFault}
use Rattle.loop_scan.specs.declared.fault.ScanFault.TheVariants as scan
use Rattle.table_data.specs.declared.fault.TableFault.{TableFault}
use Rattle.table_data.specs.declared.fault.TableFault.TheVariants as table

abbrev pub fault_of : ScanFault → TableFault
fault_of scan.Overflow = table.Overflow
fault_of scan.Entry = table.Entry
fault_of (scan.Limit limit) = table.Limit limit
fault_of scan.Memory = table.Memory
