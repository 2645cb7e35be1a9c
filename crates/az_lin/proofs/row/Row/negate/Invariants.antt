use Rattle.std.proofs.Common.{◌≡◌, map, take}
use lib.IntN.{neg_ℤ}
use Rattle.az_lin.proofs.row.Row.negate.Given as goal

abbrev pub invariant-coefs : goal.invariant-coefs
invariant-coefs l = l.coefs.items ≡ map neg_ℤ (take l.coef-index l.coef-items)
