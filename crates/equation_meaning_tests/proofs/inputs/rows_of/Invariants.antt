use Rattle.std.proofs.Common.{◌≡◌, take}
use Rattle.std.specs.Prelude.{map}
use Rattle.equation_meaning_tests.proofs.inputs.rows_of.Given as goal

abbrev pub invariant-points : goal.invariant-points
invariant-points l = map (λ row. row.0) l.rows.items ≡ take l.point-index l.points
