use Rattle.std.proofs.Common.{◌≡◌, All, take, false}
use Rattle.az_lin.specs.Inversion.{reaches}
use Rattle.az_lin.proofs.tableau.place_of.Given as goal

abbrev pub invariant-rows : goal.invariant-rows
invariant-rows l = All (λ row. reaches l.column row ≡ false) (take l.number l.rows)
