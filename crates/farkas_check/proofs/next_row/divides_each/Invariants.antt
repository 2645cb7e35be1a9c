use Rattle.std.proofs.Common.{take}
use Rattle.az_lin.specs.CommonDivisor.{DividesEach}
use Rattle.farkas_check.proofs.next_row.divides_each.Given as goal

abbrev pub invariant-loop-number : goal.invariant-loop-number
invariant-loop-number l = DividesEach l.divisor (take l.number-index l.numbers)
