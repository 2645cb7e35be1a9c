use Rattle.std.proofs.Common.{◌≡◌, ℕ, ◌<◌, ◌≤◌, get_or}
use Rattle.std.specs.List.{All}
use Rattle.loop_scan.specs.declared.head.Head.{Head}
use Rattle.loop_scan.specs.Nest.Merges.{ahead, passed, IsHead}
use Rattle.loop_scan.proofs.merge.pass.Given as goal

abbrev pub invariant-heads : goal.invariant-heads
invariant-heads l = record {
  state : All (IsHead l.width) l.heads;
  gone : (k : ℕ) (d : Head) → k < l.place → ahead (get_or l.heads k d) ≡ passed l.point (ahead (get_or l.initial.heads k d));
  still : (k : ℕ) (d : Head) → l.place ≤ k → get_or l.heads k d ≡ get_or l.initial.heads k d;
}
