use Rattle.std.proofs.Common.{◌≡◌, ◌++◌, ℤ, map, take, drop}
use Rattle.std.specs.Int.{int_div_euclid}
use Rattle.az_lin.proofs.exact_row.divide_each.Given as goal

abbrev pub invariant-loop-number : goal.invariant-loop-number
invariant-loop-number l =
    l.numbers ≡ map (λ (number : ℤ). int_div_euclid number l.divisor) (take l.number-index l.fn.numbers) ++ drop l.number-index l.fn.numbers
