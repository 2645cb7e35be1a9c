use Rattle.std.proofs.Common.{◌≡◌, []}
use Rattle.value_walk.specs.Inner.Walks.{IsGood}
use Rattle.value_walk.proofs.walk.Walk.sweep.Given as goal

abbrev pub invariant-places : goal.invariant-places
invariant-places l = IsGood l.scene l.self.states.items l.self.work × (l.self.work ≡ [])
