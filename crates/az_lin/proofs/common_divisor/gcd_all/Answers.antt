use Rattle.std.proofs.Common.{pos, get_or, SFits, to_z-of_z, rules}
use Rattle.std.specs.Int.{w128}
use Rattle.az_lin.specs.CommonDivisor.{gcd_of_all}
use Rattle.az_lin.proofs.DivisorLaws.{IsGcdOfAll-more, IsGcdOfAll-all, gcd_of_all-is_gcd, same_from_IsGcdOfAll}
use Rattle.az_lin.proofs.common_divisor.gcd_all.Goals as goal

pub numbers-preserved : goal.numbers-preserved
numbers-preserved c =
    let fits : SFits w128 (get_or c.args.numbers.now c.numbers.number-index (pos 0)) = search rules in
    IsGcdOfAll-more c.args.numbers.now c.numbers.number-index c.unsigned_abs.result c.numbers.divisor c.gcd-divisor.result
    c.numbers-test.true c.numbers.invariant (simp to_z-of_z at c.unsigned_abs.ensures.value) c.gcd-divisor.ensures.law

pub returns-clause-value : goal.returns-clause-value
returns-clause-value c =
    same_from_IsGcdOfAll c.args.numbers.now c.numbers.divisor (gcd_of_all c.args.numbers.now)
    (IsGcdOfAll-all c.args.numbers.now c.numbers.number-index c.numbers.divisor c.numbers-test.false c.numbers.invariant)
    (gcd_of_all-is_gcd c.args.numbers.now)
