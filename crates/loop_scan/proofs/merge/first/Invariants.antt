use Rattle.loop_scan.specs.Nest.Merges.{IsFirst}
use Rattle.loop_scan.proofs.merge.first.Given as goal

abbrev pub invariant-heads : goal.invariant-heads
invariant-heads l = IsFirst l.heads l.place l.first
