use Rattle.std.proofs.Common.{◌≡◌, ◌++◌, length}
use Rattle.loop_scan.proofs.points.collected.Given as goal

abbrev pub invariant-points : goal.invariant-points
invariant-points l = record {
  width : l.scanner.width ≡ l.initial.scanner.width;
  room : length l.point.items ≡ l.scanner.width;
  all : l.points.items ++ l.scanner.to_come ≡ l.initial.scanner.to_come;
}

abbrev pub decreases-points : goal.decreases-points
decreases-points l = length l.scanner.to_come
