use Rattle.std.proofs.lemmas.Nat.Gcd.{IsGcd-from_mod, IsGcd-from_zero, same_from_IsGcd}
use Rattle.az_lin.specs.CommonDivisor.{gcd_of}
use Rattle.az_lin.proofs.DivisorLaws.{gcd_of-is_gcd}
use Rattle.az_lin.proofs.common_divisor.gcd.Goals as goal

pub loop-less-preserved : goal.loop-less-preserved
loop-less-preserved c = λ g h. c.loop-less.invariant g (IsGcd-from_mod c.loop-less.greater c.loop-less.less g h)

pub returns-clause-value : goal.returns-clause-value
returns-clause-value c =
    same_from_IsGcd c.args.a c.args.b c.loop-less.greater (gcd_of c.args.a c.args.b)
    (c.loop-less.invariant c.loop-less.greater (IsGcd-from_zero c.loop-less.greater c.loop-less.less c.loop-less-test.false))
    (gcd_of-is_gcd c.args.a c.args.b)

pub returns-clause-law : goal.returns-clause-law
returns-clause-law c =
    c.loop-less.invariant c.loop-less.greater (IsGcd-from_zero c.loop-less.greater c.loop-less.less c.loop-less-test.false)
