use Rattle.std.proofs.Common.{take}
use Rattle.order_sets.specs.Made.{AreMade}
use Rattle.life_sets.specs.Cells.{same_cell}
use Rattle.life_sets.proofs.same_cells.same_cell.Given as goal

abbrev pub invariant-places : goal.invariant-places
invariant-places l = AreMade (same_cell (take l.place l.factors) (take l.place l.us) (take l.place l.vs)) l.all
