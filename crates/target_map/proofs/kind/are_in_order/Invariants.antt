use Rattle.std.proofs.Common.{◌≡◌, drop}
use Rattle.target_map.specs.Kinds.{rises_from}
use Rattle.target_map.proofs.kind.are_in_order.Given as goal

abbrev pub invariant-kinds : goal.invariant-kinds
invariant-kinds l = rises_from l.least (drop l.kind-index l.kinds) ≡ rises_from 0 l.kinds
