use Rattle.std.proofs.Common.{◌≡◌, ◌<◌, ◌^◌, drop}
use Rattle.az_lin.specs.Inversion.{HavePivots, denominator_from}
use Rattle.az_lin.proofs.fraction.denominator.Given as goal

abbrev pub invariant-rows : goal.invariant-rows
invariant-rows l = record {
  whole : denominator_from l.part.from l.part.count l.known l.number (drop l.number l.rows) ≡ denominator_from l.part.from l.part.count 1 0 l.rows;
  pivots : HavePivots l.number (drop l.number l.rows);
  positive : 0 < l.known;
  wide : l.known < 2 ^ 127;
}
