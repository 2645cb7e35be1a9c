-- What the making of all formulas answers.
use Rattle.std.specs.Prelude.{◌≡◌, List, map, All, Result, Ok, Err}
use Rattle.az_ast.specs.System.{System}
use Rattle.map_verify.specs.Formulas.{formulas, HasFewCases, AreInRange, AreFew, AreReady}
use Rattle.map_verify.specs.declared.ready.Unready.{Unready}
use Rattle.map_verify.specs.declared.ready.Unready.TheVariants.{Entry, TooManyCases, Memory}
use Rattle.order_sets.specs.Stated.{stated_claim, IsRefutable}
use Rattle.order_sets.specs.declared.stated.Stated.{Stated}
use Rattle.target_map.specs.Settings.{TargetMapping}

-- all of them, each such that it can be refuted
pub record AreFormulas (p : System) (m : TargetMapping) (list : List Stated) : Type 0 where
  pub listed : map stated_claim list ≡ formulas p m
  pub in_range : AreInRange p m
  pub refutable : All IsRefutable (map stated_claim list)

abbrev pub GivesAll : System → TargetMapping → Result (List Stated) Unready → Type 0
GivesAll p m (Ok list) = AreFormulas p m list
GivesAll p m (Err Entry) = ¬ AreInRange p m
GivesAll p m (Err TooManyCases) = ⊥
GivesAll p m (Err Memory) = Unit {0}

-- and each has few enough cases
pub record AreReadyFormulas (p : System) (m : TargetMapping) (list : List Stated) : Type 0 where
  pub listed : map stated_claim list ≡ formulas p m
  pub ready : AreReady p m
  pub refutable : All IsRefutable (map stated_claim list)
  pub few : All HasFewCases (map stated_claim list)

abbrev pub GivesReady : System → TargetMapping → Result (List Stated) Unready → Type 0
GivesReady p m (Ok list) = AreReadyFormulas p m list
GivesReady p m (Err Entry) = ¬ AreInRange p m
GivesReady p m (Err TooManyCases) = AreInRange p m × (¬ AreFew p m)
GivesReady p m (Err Memory) = Unit {0}
