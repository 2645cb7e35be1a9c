use Rattle.std.proofs.Common.{take}
use Rattle.std.specs.List.{AllZip}
use Rattle.loop_scan.proofs.Bounding.{IsPlain}
use Rattle.loop_scan.proofs.nest.Nest.new.Given as goal

abbrev pub invariant-levels : goal.invariant-levels
invariant-levels l = AllZip IsPlain (take l.range-index l.ranges) l.levels.items
