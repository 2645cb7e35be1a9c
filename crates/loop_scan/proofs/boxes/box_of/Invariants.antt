use Rattle.std.proofs.Common.{◌≡◌, ℕ, ◌<◌, length, pos, get_or}
use Rattle.az_lin.specs.Affine.{Holds}
use Rattle.az_lin.specs.Substitution.{Point}
use Rattle.loop_scan.specs.declared.range.Range.{Range}
use Rattle.loop_scan.specs.Boxes.{HasRange}
use Rattle.loop_scan.specs.Nest.Levels.{IsIn}
use Rattle.loop_scan.proofs.boxes.box_of.Given as goal

abbrev pub invariant-indices : goal.invariant-indices
invariant-indices l = record {
  count : length l.ranges.items ≡ l.column;
  each : (k : ℕ) (d : Range) → k < l.column → HasRange l.system k (get_or l.ranges.items k d);
  sound : (z : Point) → length z ≡ l.system.width → Holds l.system z → (k : ℕ) (d : Range) → k < l.column → IsIn (get_or l.ranges.items k d) (get_or z k (pos 0));
}
