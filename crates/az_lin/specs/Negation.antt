-- The row that is at least 0 at the whole points where another is not: -e - 1 of e.
use Rattle.std.specs.Prelude.{map, pos, ◌-ℤ◌, neg_ℤ}
use Rattle.az_lin.specs.Affine.{Affine}

abbrev pub negated : Affine → Affine
negated row = record { coefs = map neg_ℤ row.coefs; konst = neg_ℤ row.konst -ℤ pos 1 }
