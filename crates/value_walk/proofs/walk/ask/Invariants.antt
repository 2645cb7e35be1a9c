use Rattle.std.proofs.Common.{◌≡◌, ◌≤◌, Some, length}
use Rattle.value_walk.specs.Inner.Walks.{IsLinked, IsIn, latest}
use Rattle.value_walk.specs.declared.step.Step.{Step}
use Rattle.value_walk.proofs.walk.ask.Given as goal

abbrev pub invariant-loop-left : goal.invariant-loop-left
invariant-loop-left l =
    (l.left ≤ length l.reads) × IsLinked l.scene l.work × (latest l.work ≡ Some l.fn.reader) ×
    ((step : Step) → IsIn step l.fn.work → IsIn step l.work)

abbrev pub decreases-loop-left : goal.decreases-loop-left
decreases-loop-left l = l.left
