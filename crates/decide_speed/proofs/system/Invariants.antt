use Rattle.std.specs.List.{All}
use Rattle.az_lin.specs.Affine.{HasWidth}
use Rattle.decide_speed.proofs.system.Given as goal

abbrev pub invariant-rows : goal.invariant-rows
invariant-rows l = All (HasWidth 6) l.rows.items

abbrev pub invariant-parts : goal.invariant-parts
invariant-parts l = All (HasWidth 6) l.rows.items
