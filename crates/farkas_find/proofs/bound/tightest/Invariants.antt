use Rattle.farkas_find.specs.BackSubstitution.{CanBeTaken}
use Rattle.std.specs.Prelude.{IfSome}
use Rattle.farkas_find.proofs.Bounds.{BestSoFar}
use Rattle.farkas_find.proofs.bound.tightest.Given as goal

abbrev pub invariant-bounds : goal.invariant-bounds
invariant-bounds l = record {
  best : BestSoFar l.below l.bounds l.best l.place;
  range : IfSome l.best CanBeTaken;
}
