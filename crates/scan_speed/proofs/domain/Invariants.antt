use Rattle.std.specs.List.{All}
use Rattle.az_lin.specs.Affine.{HasWidth}
use Rattle.scan_speed.proofs.domain.Given as goal

abbrev pub invariant-rows : goal.invariant-rows
invariant-rows l = All (HasWidth 2) l.rows.items
