use Rattle.std.proofs.Common.{All, take}
use Rattle.farkas_check.specs.Verdict.{IsMet}
use Rattle.farkas_check.proofs.satisfy.satisfies.Given as goal

abbrev pub invariant-loop-row : goal.invariant-loop-row
invariant-loop-row l = All (IsMet l.point) (take l.row-index l.system.rows)
