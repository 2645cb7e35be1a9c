use Rattle.std.proofs.Common.{◌≡◌}
use Rattle.std.specs.Option.{option_copied}
use Rattle.target_map.specs.Refusals.{others_in}
use Rattle.target_map.proofs.refusals.others_in.Given as goal

abbrev pub invariant-numbers : goal.invariant-numbers
invariant-numbers l = option_copied l.found ≡ others_in l.storages l.space l.variable l.number
