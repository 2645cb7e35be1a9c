use Rattle.std.proofs.Common.{◌≡◌, ◌-◌, drop, length}
use Rattle.farkas_find.specs.BackSubstitution.{point_in, point_from, origin, PointWide, IsDenominator}
use Rattle.farkas_find.proofs.back_substitute.found.Given as goal

-- what went last is found
abbrev pub invariant-trail : goal.invariant-trail
invariant-trail l = record {
  point : point_in l.found ≡ point_from (drop (length l.trail - l.done) l.trail) (origin l.width);
  wide : PointWide (drop (length l.trail - l.done) l.trail) (origin l.width);
  denominator : IsDenominator l.found.den;
  width : length l.found.nums.items ≡ l.width;
}
