use Rattle.std.proofs.Common.{◌≡◌, length}
use Rattle.loop_scan_tests.proofs.refusal_tests.count.Given as goal

abbrev pub invariant-points : goal.invariant-points
invariant-points l = length l.out ≡ l.scanner.width

abbrev pub decreases-points : goal.decreases-points
decreases-points l = length l.scanner.to_come
