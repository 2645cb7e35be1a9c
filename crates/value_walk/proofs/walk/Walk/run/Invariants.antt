use Rattle.std.proofs.Common.{◌+◌, ◌*◌, ◌^◌, ◌<◌, [], ◌∷◌, length}
use Rattle.value_walk.specs.Inner.Walks.{IsGood, AreKept, unknown}
use Rattle.value_walk.specs.declared.step.Step.TheVariants.{Asked}
use Rattle.value_walk.proofs.walk.Walk.run.Given as goal

abbrev pub invariant-loop-step : goal.invariant-loop-step
invariant-loop-step l =
    IsGood l.scene l.self.states.items l.self.work × AreKept l.scene l.fn.self.states.items (Asked l.fn.root ∷ []) l.self.states.items l.self.work ×
    (length l.self.work < 2 ^ 64)

-- a value that is looked for now weighs more than any stack
abbrev pub decreases-loop-step : goal.decreases-loop-step
decreases-loop-step l = unknown l.self.states.items * 2 ^ 64 + length l.self.work
