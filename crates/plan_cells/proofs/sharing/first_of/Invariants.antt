use Rattle.std.proofs.Common.{◌≡◌, ◌-◌}
use Rattle.plan_cells.specs.Numbering.{first_from, first_of}
use Rattle.target_map.specs.Storage.{shares_space}
use Rattle.plan_cells.proofs.sharing.first_of.Given as goal

abbrev pub invariant-variables : goal.invariant-variables
invariant-variables l = first_from (shares_space l.mapping l.x) l.y (l.x - l.y) ≡ first_of l.mapping l.x
