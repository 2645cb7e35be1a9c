use Rattle.std.proofs.Common.{◌≡◌, map}
use Rattle.std.specs.List.{range_with_len}
use Rattle.az_lin.specs.Affine.{dot}
use Rattle.az_lin.specs.Substitution.{column}
use Rattle.az_lin.proofs.row.Row.compose.Given as goal

abbrev pub invariant-columns : goal.invariant-columns
invariant-columns l = l.coefs.items ≡ map (λ j. dot l.self.coefs (column j l.f.rows)) (range_with_len 0 l.column)
