use Rattle.std.proofs.Common.{take}
use Rattle.loop_scan.specs.Nest.Parts.{AreWalksOf}
use Rattle.loop_scan.proofs.walks.walks.Given as goal

abbrev pub invariant-disjuncts : goal.invariant-disjuncts
invariant-disjuncts l = AreWalksOf l.width (take l.place l.disjuncts) l.walks.items
