use Rattle.std.proofs.Common.{◌≡◌, map}
use lib.IntN.{neg_ℤ}
use Rattle.std.specs.List.{range_with_len}
use Rattle.az_lin.specs.Affine.{dot}
use Rattle.az_lin.specs.Substitution.{column}
use Rattle.az_lin.proofs.invert.inverse_row.Given as goal

abbrev pub invariant-columns : goal.invariant-columns
invariant-columns l = l.coefs.items ≡ map (λ j. neg_ℤ (dot l.numbers (column j l.map.rows))) (range_with_len 0 l.column)
