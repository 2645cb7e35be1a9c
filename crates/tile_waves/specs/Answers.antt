-- What listing the waves answers: all instances in order, or a refusal that stands.
--
-- A domain is refused as its scanner refuses it. Then there may be too many instances, or one whose coordinates in
-- time aren't within the limit of a coordinate.
use Rattle.std.specs.Prelude.{◌≡◌, ℕ, ◌<◌, ◌≤◌, ◌^◌, ◌⊎◌, ℤ, List, length, slice_get, Some, Option, Result, Ok, Err, All, Contains}
use Rattle.az_lin.specs.Affine.{IsCoordinate}
use Rattle.az_lin.specs.declared.limit.Limit.TheVariants.{Instances, Coordinate}
use Rattle.az_ast.specs.System.{System}
use Rattle.execution.specs.declared.instance.Instance.{Instance}
use Rattle.loop_scan.specs.Boxes.{HasBoxes, Refuses}
use Rattle.loop_scan.specs.declared.fault.ScanFault.{ScanFault}
use Rattle.loop_scan.specs.declared.fault.ScanFault.TheVariants.{Limit, Memory}
use Rattle.loop_scan.specs.declared.range.Range.{Range}
use Rattle.target_map.specs.Settings.{TargetMapping, is_written}
use Rattle.target_map.specs.Times.{domain_of}
use Rattle.tile_waves.specs.Keys.{times_of}
use Rattle.tile_waves.specs.Waves.{IsInstance, AllWaves, AreWaves}

abbrev pub most_instances : ℕ
most_instances = 2 ^ 20

-- instances of the program, no two of them the same
pub record AreInstances (p : System) (params : List ℤ) (us : List Instance) : Type 0 where
  pub only : All (IsInstance p params) us
  pub once : (i j : ℕ) (u : Instance) → slice_get us i ≡ Some u → slice_get us j ≡ Some u → i ≡ j

module _ (p : System) (m : TargetMapping) (params : List ℤ) where
  abbrev pub AreMany : Type 0
  AreMany = (us : List Instance) × AreInstances p params us × (most_instances < length us)

  abbrev pub IsFar : Instance → Type 0
  IsFar u = IsInstance p params u × (All IsCoordinate (times_of m params u) → ⊥)

  abbrev pub RefusesDomain : ScanFault → Type 0
  RefusesDomain fault = (x : ℕ) × is_written p x × Refuses (domain_of p x) params fault

  abbrev pub RefusesWaves : ScanFault → Type 0
  RefusesWaves fault =
      (fault ≡ Memory) ⊎ (RefusesDomain fault ⊎ (((fault ≡ Limit Instances) × AreMany) ⊎ ((fault ≡ Limit Coordinate) × ((u : Instance) × IsFar u))))

  -- where the waves are listed nothing refuses them
  pub record IsUnrefused : Type 0 where
    pub domains : (x : ℕ) → is_written p x → (boxes : List (Option (List Range))) × HasBoxes (domain_of p x) params boxes
    pub few : (us : List Instance) × AreInstances p params us × ((u : Instance) → IsInstance p params u → Contains us u) × (length us ≤ most_instances)
    pub near : (u : Instance) → IsInstance p params u → All IsCoordinate (times_of m params u)

abbrev pub WavesAnswers : System → TargetMapping → List ℤ → Result AllWaves ScanFault → Type 0
WavesAnswers p m params (Ok waves) = AreWaves p m params waves × IsUnrefused p m params
WavesAnswers p m params (Err fault) = RefusesWaves p m params fault
