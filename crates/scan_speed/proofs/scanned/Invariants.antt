use Rattle.std.proofs.Common.{◌≡◌, length}
use Rattle.scan_speed.proofs.scanned.Given as goal

abbrev pub invariant-times : goal.invariant-times
invariant-times l = length l.point ≡ 2

abbrev pub invariant-points : goal.invariant-points
invariant-points l = record {
  width : l.scanner.width ≡ 2;
  room : length l.point ≡ 2;
}

abbrev pub decreases-points : goal.decreases-points
decreases-points l = length l.scanner.to_come
