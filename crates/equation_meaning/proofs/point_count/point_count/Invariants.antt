use Rattle.std.proofs.Common.{◌^◌, take}
use Rattle.equation_meaning.proofs.PointSteps.{numbers, IsPart}
use Rattle.equation_meaning.proofs.point_count.point_count.Given as goal

abbrev pub invariant-variables : goal.invariant-variables
invariant-variables l = IsPart l.program l.params (take l.x (numbers l.program l.params)) (2 ^ 22) l.count
