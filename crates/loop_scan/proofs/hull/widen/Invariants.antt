use Rattle.std.proofs.Common.{◌≡◌, ℕ, ◌<◌, ◌≤◌}
use Rattle.loop_scan.specs.Hulls.{range_of}
use Rattle.loop_scan.specs.Nest.Joined.{joined}
use Rattle.loop_scan.proofs.hull.widen.Given as goal

abbrev pub invariant-indices : goal.invariant-indices
invariant-indices l = record {
  gone : (k : ℕ) → k < l.index → range_of k l.hull ≡ joined (range_of k l.initial.hull) (range_of k l.ranges);
  still : (k : ℕ) → l.index ≤ k → range_of k l.hull ≡ range_of k l.initial.hull;
}
