use Rattle.std.proofs.Common.{◌≡◌, false}
use Rattle.loop_scan.specs.Nest.Walks.{IsWalk, points_left, work_left}
use Rattle.loop_scan.proofs.walk.Walk.advance.Given as goal

abbrev pub invariant-loop-self : goal.invariant-loop-self
invariant-loop-self l = record {
  state : IsWalk l.self;
  levels : l.self.levels ≡ l.initial.self.levels;
  begun : l.self.fresh ≡ false;
  left : points_left l.self ≡ points_left l.initial.self;
}

abbrev pub decreases-loop-self : goal.decreases-loop-self
decreases-loop-self l = work_left l.self
