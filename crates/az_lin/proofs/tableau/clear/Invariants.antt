use Rattle.std.proofs.Common.{◌≡◌, All, map, take, drop, ◌++◌}
use Rattle.az_lin.specs.Inversion.{cleared, ClearsWide}
use Rattle.az_lin.proofs.tableau.clear.Given as goal

abbrev pub invariant-rows : goal.invariant-rows
invariant-rows l = record {
  done : l.rows ≡ map (cleared l.column l.pivot) (take l.number l.fn.rows) ++ drop l.number l.fn.rows;
  wide : All (ClearsWide l.column l.pivot) (take l.number l.fn.rows);
}
