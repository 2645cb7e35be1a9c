use Rattle.std.proofs.Common.{◌≡◌, take, map, All}
use Rattle.az_lin.specs.Combination.{HasWideEntries}
use Rattle.farkas_find.specs.Combining.{numbered_from}
use Rattle.farkas_find.proofs.first_rows.numbered.Given as goal

abbrev pub invariant-rows : goal.invariant-rows
invariant-rows g l = record {
  numbered : l.numbered.items ≡ numbered_from 0 (take l.place (map g.G.GivenRow.affine l.rows));
  range : All HasWideEntries (take l.place (map g.G.GivenRow.affine l.rows));
}
