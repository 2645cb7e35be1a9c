use Rattle.std.proofs.Common.{map, take}
use Rattle.loop_scan.specs.Nest.Answered.{ranges_of}
use Rattle.loop_scan.specs.Nest.Joined.{IsHullOf, IsBoxOver}
use Rattle.loop_scan.proofs.hull.hull_of.Given as goal

abbrev pub invariant-boxes : goal.invariant-boxes
invariant-boxes l = record {
  over : IsBoxOver l.width (ranges_of l.hull);
  joins : IsHullOf l.width (map ranges_of (take l.one-index l.boxes)) (ranges_of l.hull);
}
