use Rattle.std.proofs.Common.{◌≡◌, take, map, All}
use Rattle.az_lin.specs.Affine.{HasEntries}
use Rattle.az_lin.specs.Substitution.{shifted}
use Rattle.az_poly.proofs.substitution.conj_translate.Given as goal

abbrev pub invariant-rows : goal.invariant-rows
invariant-rows l = record {
  so_far : l.rows.items ≡ map (λ row. shifted row l.v) (take l.row-index l.own);
  entries : All HasEntries l.rows.items;
}
