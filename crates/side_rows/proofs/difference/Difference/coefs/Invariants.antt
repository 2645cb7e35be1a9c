use Rattle.std.proofs.Common.{◌≡◌, take, Some}
use Rattle.std.specs.Prelude.{map}
use Rattle.side_rows.specs.Sides.{entry_of}
use Rattle.side_rows.proofs.difference.Difference.coefs.Given as goal

abbrev pub invariant-columns : goal.invariant-columns
invariant-columns l = l.coefs.items ≡ map (λ name. entry_of l.fn.self (Some name.now)) (take l.name-index l.name-items)
