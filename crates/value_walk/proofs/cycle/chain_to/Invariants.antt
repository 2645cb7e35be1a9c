use Rattle.std.proofs.Common.{length}
use Rattle.value_walk.specs.Inner.Walks.{IsLinked, IsIn, IsTrail, latest, name_of}
use Rattle.value_walk.specs.declared.step.Step.TheVariants.{Begun}
use Rattle.value_walk.proofs.cycle.chain_to.Given as goal

abbrev pub invariant-loop-step : goal.invariant-loop-step
invariant-loop-step l =
    IsLinked l.scene l.work × IsIn (Begun l.target) l.work × IsTrail l.scene (latest l.work) l.chain (name_of l.scene l.target)

abbrev pub decreases-loop-step : goal.decreases-loop-step
decreases-loop-step l = length l.work
