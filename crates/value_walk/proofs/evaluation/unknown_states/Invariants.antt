use Rattle.std.proofs.Common.{◌≡◌, take}
use Rattle.std.specs.Prelude.{map}
use Rattle.value_walk.specs.Inner.Slots.{unknown_for}
use Rattle.value_walk.proofs.evaluation.unknown_states.Given as goal

abbrev pub invariant-points : goal.invariant-points
invariant-points l = l.states.items ≡ map unknown_for (take l.list-index l.points)
