-- What has been listed so far.
use Rattle.std.specs.Prelude.{◌≡◌, ℕ, ◌+◌, ◌<◌, ◌≤◌, ◌⊎◌, ℤ, List, [], ◌++◌, length, All, Contains, Option}
use Rattle.az_lin.specs.Affine.{Union, IsCoordinate}
use Rattle.az_lin.specs.Substitution.{Point}
use Rattle.az_lin.specs.declared.limit.Limit.TheVariants.{Instances, Coordinate}
use Rattle.az_ast.specs.Points.{AreMembers}
use Rattle.az_ast.specs.System.{System}
use Rattle.execution.specs.declared.instance.Instance.{Instance}
use Rattle.loop_scan.specs.Boxes.{HasBoxes, Refuses}
use Rattle.loop_scan.specs.Members.{indices}
use Rattle.loop_scan.specs.declared.fault.ScanFault.{ScanFault}
use Rattle.loop_scan.specs.declared.fault.ScanFault.TheVariants.{Limit, Memory}
use Rattle.loop_scan.specs.declared.range.Range.{Range}
use Rattle.target_map.specs.Settings.{TargetMapping, is_written}
use Rattle.target_map.specs.Times.{domain_of}
use Rattle.tile_waves.specs.Answers.{AreInstances, most_instances}
use Rattle.tile_waves.specs.Inner.Items.{IsItem, IsMore, instances_of}
use Rattle.tile_waves.specs.Keys.{times_of}
use Rattle.tile_waves.specs.Waves.{IsInstance}
use Rattle.tile_waves.specs.declared.item.Item.{Item}

abbrev pub instance : ℕ → List ℤ → Instance
instance x point = record { variable = x; point = point }

abbrev pub IsNear : TargetMapping → List ℤ → Instance → Type 0
IsNear m params u = All IsCoordinate (times_of m params u)

abbrev pub IsTooFar : Type 0 → ScanFault → Type 0
IsTooFar near fault = (fault ≡ Memory) ⊎ ((fault ≡ Limit Coordinate) × (near → ⊥))

-- the points of a variable that are listed, and those that are to come
pub record IsListing (m : TargetMapping) (params : List ℤ) (x : ℕ) (before now : List Item) (all to_come : List Point) : Type 0 where
  pub given : List Point
  pub whole : given ++ to_come ≡ all
  pub more : IsMore m params x before now given
  pub near : All (λ point. IsNear m params (instance x point)) given

-- why a variable's points aren't listed
abbrev pub RefusesPoints : TargetMapping → List ℤ → ℕ → List Item → List Point → ScanFault → Type 0
RefusesPoints m params x before all fault =
    (fault ≡ Memory)
    ⊎ (((fault ≡ Limit Instances) × (most_instances < length before + length all))
    ⊎ ((fault ≡ Limit Coordinate) × ((point : Point) × Contains all point × (IsNear m params (instance x point) → ⊥))))

-- all instances of the variables below a number
pub record AreListed (p : System) (m : TargetMapping) (params : List ℤ) (count : ℕ) (items : List Item) : Type 0 where
  pub keys : All (IsItem m params) items
  pub instances : AreInstances p params (instances_of items)
  pub below : All (λ (u : Instance). u.variable < count) (instances_of items)
  pub every : (u : Instance) → IsInstance p params u → u.variable < count → Contains (instances_of items) u
  pub near : (u : Instance) → IsInstance p params u → u.variable < count → IsNear m params u
  pub domains : (x : ℕ) → is_written p x → x < count → (boxes : List (Option (List Range))) × HasBoxes (domain_of p x) params boxes
  pub few : length items ≤ most_instances

-- the instances of a variable with this domain, put behind others
pub record IsVariable (m : TargetMapping) (params : List ℤ) (x : ℕ) (domain : Union) (before now : List Item) : Type 0 where
  pub points : List Point
  pub members : AreMembers domain params (indices domain params) points
  pub boxes : List (Option (List Range))
  pub has_boxes : HasBoxes domain params boxes
  pub listing : IsListing m params x before now points []
  pub few : length now ≤ most_instances

-- why they aren't
abbrev pub RefusesVariable : TargetMapping → List ℤ → ℕ → Union → List Item → ScanFault → Type 0
RefusesVariable m params x domain before fault =
    Refuses domain params fault
    ⊎ ((points : List Point) × AreMembers domain params (indices domain params) points × RefusesPoints m params x before points fault)
