use Rattle.std.proofs.Common.{◌≡◌, ◌≤◌, length}
use Rattle.tile_waves.specs.Answers.{most_instances}
use Rattle.tile_waves.specs.Inner.Listed.{IsListing}
use Rattle.tile_waves.proofs.listing.push_points.Given as goal

abbrev pub invariant-points : goal.invariant-points
invariant-points l = record {
  width : l.scanner.width ≡ l.initial.scanner.width;
  room : length l.point.items ≡ l.scanner.width;
  listing : IsListing l.variable.mapping.now l.variable.params.now l.variable.number l.initial.items.items l.items.items l.initial.scanner.to_come l.scanner.to_come;
  few : length l.items.items ≤ most_instances;
}

abbrev pub decreases-points : goal.decreases-points
decreases-points l = length l.scanner.to_come
