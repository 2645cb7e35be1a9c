use Rattle.std.proofs.Common.{◌≡◌, take, map}
use Rattle.az_lin.specs.Affine.{value_at}
use Rattle.quick_rows.proofs.map.QuickMap.apply.Given as goal

abbrev pub invariant-rows : goal.invariant-rows
invariant-rows l = take l.number l.out ≡ map (λ row. value_at row l.z) (take l.number l.rows)
