use Rattle.std.proofs.Common.{◌≡◌, ◌^◌, ◌+◌, min, take}
use Rattle.loop_scan.specs.Hulls.{points_in}
use Rattle.loop_scan.proofs.hull.has_few.Given as goal

abbrev pub invariant-sizes : goal.invariant-sizes
invariant-sizes l = l.points ≡ min (points_in (take l.range-index l.hull)) (2 ^ 22 + 1)
