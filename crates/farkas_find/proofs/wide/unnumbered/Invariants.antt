use Rattle.std.proofs.Common.{◌≡◌, take, map}
use Rattle.farkas_find.specs.Rows.{affine_of}
use Rattle.farkas_find.proofs.wide.unnumbered.Given as goal

abbrev pub invariant-rows : goal.invariant-rows
invariant-rows l = map affine_of l.plain.items ≡ map (λ it. it.row) (take l.it-index l.rows)
