use Rattle.std.proofs.Common.{◌≡◌}
use Rattle.std.specs.Prelude.{map}
use Rattle.std.specs.List.{range_with_len}
use Rattle.target_map.specs.Storage.{shares_space}
use Rattle.plan_cells.proofs.sharing.sharers.Given as goal

abbrev pub invariant-variables : goal.invariant-variables
invariant-variables l = l.sharers.items ≡ map (shares_space l.mapping l.x) (range_with_len 0 l.y)
