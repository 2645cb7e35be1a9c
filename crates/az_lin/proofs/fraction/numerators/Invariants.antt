use Rattle.std.proofs.Common.{◌≡◌, ◌++◌, All, drop}
use Rattle.az_lin.specs.Affine.{IsWide}
use Rattle.az_lin.specs.Inversion.{HavePivots, numerators}
use Rattle.az_lin.proofs.fraction.numerators.Given as goal

abbrev pub invariant-rows : goal.invariant-rows
invariant-rows l = record {
  whole : l.products.items ++ numerators l.part.from l.part.count l.den l.number (drop l.number l.rows) ≡ numerators l.part.from l.part.count l.den 0 l.rows;
  pivots : HavePivots l.number (drop l.number l.rows);
  wide : All IsWide l.products.items;
}
