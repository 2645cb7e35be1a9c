-- The order of the waves respects the order of instances: what is before another is in an earlier wave, or earlier in
-- the same tile.
use Rattle.std.specs.Prelude.{ℤ, List, ◌++◌}
use Rattle.az_ast.specs.System.{System}
use Rattle.execution.specs.Plans.{IsEarlier}
use Rattle.execution.specs.declared.instance.Instance.{Instance}
use Rattle.execution.specs.declared.place.Place.{Place}
use Rattle.target_map.specs.Settings.{TargetMapping, IsMapping, IsComplete}
use Rattle.target_map.specs.Times.{IsBefore}
use Rattle.tile_waves.specs.Waves.{AllWaves, IsAt, AreWaves}

abbrev pub BeforeIsEarlier : Type 0
BeforeIsEarlier =
    (p : System) (m : TargetMapping) (params : List ℤ) → IsMapping m → IsComplete p m → (waves : AllWaves) → AreWaves p m params waves →
    (q r : Place) (u v : Instance) → IsAt waves q u → IsAt waves r v → IsBefore m u.variable (params ++ u.point) v.variable (params ++ v.point) → IsEarlier q r
