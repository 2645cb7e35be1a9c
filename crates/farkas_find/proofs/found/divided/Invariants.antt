use Rattle.std.proofs.Common.{◌≡◌, ◌++◌, ℤ, map, take, drop}
use Rattle.std.specs.Int.{int_div_euclid}
use Rattle.farkas_find.proofs.found.divided.Given as goal

abbrev pub invariant-nums : goal.invariant-nums
invariant-nums l =
    l.done.items ≡ map (λ (number : ℤ). int_div_euclid number l.divisor) (take l.place l.fn.nums.items) ++ drop l.place l.fn.nums.items
