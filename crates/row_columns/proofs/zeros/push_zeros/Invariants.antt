use Rattle.std.proofs.Common.{◌≡◌, ◌++◌, replicate, pos}
use Rattle.row_columns.proofs.zeros.push_zeros.Given as goal

abbrev pub invariant-zeros : goal.invariant-zeros
invariant-zeros l = l.coefs.items ≡ l.initial.coefs.items ++ replicate l.number (pos 0)
