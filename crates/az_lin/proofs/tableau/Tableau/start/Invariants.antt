use Rattle.std.proofs.Common.{◌≡◌, ◌++◌, length, drop}
use Rattle.az_lin.specs.Inversion.{beside_identity}
use Rattle.az_lin.proofs.tableau.Tableau.start.Given as goal

abbrev pub invariant-rows : goal.invariant-rows
invariant-rows l = l.rest.items ++ beside_identity l.params (length l.rows) l.number (drop l.number l.rows) ≡ beside_identity l.params (length l.rows) 0 l.rows
