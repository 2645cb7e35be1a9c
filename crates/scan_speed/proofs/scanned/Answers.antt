use Rattle.std.proofs.Common.{◌≡◌, arith}
use Rattle.scan_speed.proofs.scanned.Goals as goal

pub points-init : goal.points-init
points-init c = record {
  width = omega (arith, c.in_ok-scanner.ensures.0.width, c.in_ok-domain.ensures);
  room = c.times.invariant;
}
