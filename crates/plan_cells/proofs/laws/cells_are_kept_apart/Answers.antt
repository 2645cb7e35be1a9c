use Rattle.plan_cells.proofs.Apart.{kept-apart}
use Rattle.plan_cells.proofs.laws.cells_are_kept_apart.Goals as goal

pub returns : goal.returns
returns c = λ p m keeps complete params us keepable numbers are. kept-apart m keeps params p complete us keepable numbers are
