use Rattle.std.proofs.Common.{◌<◌, sym, subst}
use Rattle.az_lin.proofs.Clearing.{gcd_of-positive}
use Rattle.az_lin.proofs.fraction.multiple.Goals as goal

pub nonzero_div-a : goal.nonzero_div-a
nonzero_div-a c = subst (λ n. 0 < n) (sym c.gcd.ensures.value) (gcd_of-positive c.args.a c.args.b c.requires)
