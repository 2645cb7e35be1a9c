use Rattle.std.specs.List.{All}
use Rattle.az_lin.specs.Affine.{HasWidth}
use Rattle.farkas_tests.proofs.elimination.stored.Given as goal

abbrev pub invariant-rows : goal.invariant-rows
invariant-rows l = All (HasWidth 3) l.rows.items
