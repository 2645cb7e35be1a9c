use Rattle.std.proofs.Common.{◌≡◌, ℕ, ◌<◌, length}
use Rattle.value_walk.specs.Inner.Slots.{IsUnrefusedAt}
use Rattle.value_walk.specs.Points.{AreCovered}
use Rattle.value_walk.proofs.points.listed.Given as goal

abbrev pub invariant-variables : goal.invariant-variables
invariant-variables l =
    (length l.points ≡ l.variable-index) × ((x : ℕ) → x < l.variable-index → AreCovered l.program l.params l.points x) ×
    ((x : ℕ) → x < l.variable-index → IsUnrefusedAt l.program l.params x)
