use Rattle.std.proofs.Common.{take, All}
use Rattle.az_lin.specs.RationalPoint.{IsWideAt}
use Rattle.farkas_find.specs.Tidying.{rounded}
use Rattle.farkas_find.specs.BackSubstitution.{point_in}
use Rattle.farkas_find.proofs.back_substitute.evaluate.Given as goal

abbrev pub invariant-given : goal.invariant-given
invariant-given l = All (λ row. IsWideAt (point_in l.found) (rounded row)) (take l.place l.given)
