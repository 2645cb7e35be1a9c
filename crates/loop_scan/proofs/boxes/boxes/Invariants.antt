use Rattle.std.proofs.Common.{map, take}
use Rattle.loop_scan.specs.Boxes.{AreBoxes}
use Rattle.loop_scan.specs.Nest.Answered.{AllBound, ranges_of}
use Rattle.loop_scan.proofs.boxes.boxes.Given as goal

abbrev pub invariant-parts : goal.invariant-parts
invariant-parts l = record {
  answered : AreBoxes (take l.disjunct-index l.disjuncts) (map ranges_of l.boxes.items);
  bound : AllBound (take l.disjunct-index l.disjuncts) (map ranges_of l.boxes.items);
}
