-- The instances of a program in the order in which they are carried out: a list of waves, each a list of tiles, each a
-- list of instances.
use Rattle.std.specs.Prelude.{◌≡◌, ℕ, ◌<◌, ℤ, List, [], length, get_or, slice_get, Some}
use Rattle.az_ast.specs.Points.{Precedes, IsPointOf}
use Rattle.az_ast.specs.System.{System}
use Rattle.execution.specs.declared.instance.Instance.{Instance}
use Rattle.execution.specs.declared.place.Place.{Place}
use Rattle.target_map.specs.Settings.{TargetMapping, is_written}
use Rattle.target_map.specs.Times.{domain_of}
use Rattle.tile_waves.specs.Keys.{wave_key, tile_key, work_key}

-- an output or local at a point of its domain
pub record IsInstance (p : System) (params : List ℤ) (u : Instance) : Type 0 where
  pub written : is_written p u.variable
  pub point : IsPointOf (length p.params) (domain_of p u.variable) params u.point

abbrev pub AllWaves : Type 0
AllWaves = List (List (List Instance))

abbrev pub IsAt : AllWaves → Place → Instance → Type 0
IsAt waves q u = slice_get (get_or (get_or waves q.wave []) q.tile []) q.number ≡ Some u

-- the keys rise from wave to wave, from tile to tile in a wave, and from instance to instance in a tile, and no wave
-- and no tile is empty
pub record IsOrdered (m : TargetMapping) (params : List ℤ) (waves : AllWaves) : Type 0 where
  pub one_wave : (q r : Place) (u v : Instance) → IsAt waves q u → IsAt waves r v → q.wave ≡ r.wave → wave_key m params u ≡ wave_key m params v
  pub waves_rise : (q r : Place) (u v : Instance) → IsAt waves q u → IsAt waves r v → q.wave < r.wave → Precedes (wave_key m params u) (wave_key m params v)
  pub one_tile : (q r : Place) (u v : Instance) → IsAt waves q u → IsAt waves r v → q.wave ≡ r.wave → q.tile ≡ r.tile → tile_key m params u ≡ tile_key m params v
  pub tiles_rise :
      (q r : Place) (u v : Instance) → IsAt waves q u → IsAt waves r v → q.wave ≡ r.wave → q.tile < r.tile → Precedes (tile_key m params u) (tile_key m params v)
  pub instances_rise :
      (q r : Place) (u v : Instance) → IsAt waves q u → IsAt waves r v → q.wave ≡ r.wave → q.tile ≡ r.tile → q.number < r.number →
      Precedes (work_key m params u) (work_key m params v)
  pub some_tile : (wave : ℕ) → wave < length waves → 0 < length (get_or waves wave [])
  pub some_instance : (wave tile : ℕ) → tile < length (get_or waves wave []) → 0 < length (get_or (get_or waves wave []) tile [])

pub record AreWaves (p : System) (m : TargetMapping) (params : List ℤ) (waves : AllWaves) : Type 0 where
  pub only : (q : Place) (u : Instance) → IsAt waves q u → IsInstance p params u
  pub every : (u : Instance) → IsInstance p params u → (q : Place) × IsAt waves q u
  pub once : (q r : Place) (u : Instance) → IsAt waves q u → IsAt waves r u → q ≡ r
  pub ordered : IsOrdered m params waves
