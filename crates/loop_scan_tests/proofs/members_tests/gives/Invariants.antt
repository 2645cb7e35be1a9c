use Rattle.std.proofs.Common.{◌≡◌, length}
use Rattle.loop_scan_tests.proofs.members_tests.gives.Given as goal

abbrev pub invariant-points : goal.invariant-points
invariant-points l = length l.out ≡ l.scanner.width
