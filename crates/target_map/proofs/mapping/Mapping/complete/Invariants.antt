use Rattle.std.proofs.Common.{◌≡◌, drop}
use Rattle.target_map.specs.Refusals.{unmapped_from}
use Rattle.target_map.proofs.mapping.Mapping.complete.Given as goal

abbrev pub invariant-variables : goal.invariant-variables
invariant-variables l = unmapped_from l.self l.place (drop l.place l.variables) ≡ unmapped_from l.self 0 l.variables
