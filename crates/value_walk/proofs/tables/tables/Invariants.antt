use Rattle.std.proofs.Common.{◌≡◌, ℕ, ◌<◌, ◌≤◌, None, length}
use Rattle.std.specs.FinMap.{get}
use Rattle.value_walk.specs.Points.{points_of}
use Rattle.value_walk.specs.Meanings.{HasTable}
use Rattle.value_walk.proofs.tables.tables.Given as goal

abbrev pub invariant-loop-list : goal.invariant-loop-list
invariant-loop-list l =
    (length l.points ≤ length l.fn.points) × ((x : ℕ) → x < length l.points → points_of l.points x ≡ points_of l.fn.points x) ×
    ((x : ℕ) → length l.points ≤ x → HasTable l.program l.inputs l.params l.values x) ×
    ((x : ℕ) → x < length l.points → get l.values x ≡ None)

abbrev pub decreases-loop-list : goal.decreases-loop-list
decreases-loop-list l = length l.points
