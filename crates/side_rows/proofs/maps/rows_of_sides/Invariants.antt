use Rattle.std.proofs.Common.{◌≡◌, take}
use Rattle.std.specs.Prelude.{map}
use Rattle.side_rows.specs.Sides.{row_of, alone}
use Rattle.side_rows.proofs.maps.rows_of_sides.Given as goal

abbrev pub invariant-sides : goal.invariant-sides
invariant-sides l = l.rows.items ≡ map (λ side. row_of l.fn.scope (alone side)) (take l.side-index l.fn.sides)
