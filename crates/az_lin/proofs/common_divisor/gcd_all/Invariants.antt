use Rattle.std.proofs.Common.{take}
use Rattle.az_lin.specs.CommonDivisor.{IsGcdOfAll}
use Rattle.az_lin.proofs.common_divisor.gcd_all.Given as goal

abbrev pub invariant-numbers : goal.invariant-numbers
invariant-numbers l = IsGcdOfAll (take l.number-index l.numbers) l.divisor
