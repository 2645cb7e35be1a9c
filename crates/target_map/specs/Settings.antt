-- A target mapping: the kinds of the dimensions of time, when and where each variable's instances are carried out
-- and kept, and the statements in order. Variables go by their numbers.
use Rattle.std.specs.Prelude.{◌≡◌, ℕ, ◌+◌, ◌<◌, ◌≤◌, ◌==◌, List, [], length, All, slice_get, Some, true, not, position}
use Rattle.std.specs.FinMap.{FinMap, get, insert, empty}
use Rattle.std.specs.List.{list_all}
use Rattle.std.specs.Option.{option_map_or}
use Rattle.std.specs.Ordering.{nat_cmp}
use Rattle.az_lin.specs.Affine.{AffineMap}
use Rattle.az_ast.specs.Shapes.{of_variable, is_input}
use Rattle.az_ast.specs.System.{System}
use Rattle.target_map.specs.Kinds.{rises_from, is_sized, most_size}
use Rattle.target_map.specs.declared.kind.Kind.{Kind}
use Rattle.target_map.specs.declared.storage.Storage.{Storage}

abbrev pub Storages : Type 0
Storages = FinMap nat_cmp Storage

pub record TargetMapping : Type 0 where
  pub kinds : List Kind
  pub times : FinMap nat_cmp AffineMap
  pub storages : Storages
  pub statements : List ℕ

abbrev pub storage_in : List ℕ → AffineMap → List ℕ → Storage
storage_in space map factors = record { space = space; map = map; factors = factors }

abbrev pub no_mapping : TargetMapping
no_mapping = record { kinds = []; times = empty; storages = empty; statements = [] }

-- the number of a statement: its place in the list, from 1, and 0 for others
abbrev pub order_number : List ℕ → ℕ → ℕ
order_number statements x = option_map_or (λ place. place + 1) (position (λ y. y == x) statements) 0

-- what each setting call changes
abbrev pub with_kinds : TargetMapping → List Kind → TargetMapping
with_kinds m kinds = record m { kinds = kinds; times = empty }

abbrev pub with_time : TargetMapping → ℕ → AffineMap → TargetMapping
with_time m x f = record m { times = insert m.times x f }

abbrev pub with_storage : TargetMapping → ℕ → Storage → TargetMapping
with_storage m x storage = record m { storages = insert m.storages x storage }

abbrev pub with_statements : TargetMapping → List ℕ → TargetMapping
with_statements m statements = record m { statements = statements }

-- what every mapping keeps
abbrev pub EachSet : {X : Type 0} → (ℕ → X → Type 0) → FinMap nat_cmp X → Type 0
EachSet {X} P settings = (x : ℕ) (value : X) → get settings x ≡ Some value → P x value

pub record IsMapping (m : TargetMapping) : Type 0 where
  pub order : rises_from 0 m.kinds ≡ true
  pub sizes : list_all is_sized m.kinds ≡ true
  -- a space-time map has a row for each dimension
  pub times : EachSet (λ x f. length f.rows ≡ length m.kinds) m.times
  -- a memory map has a factor for each of its rows
  pub factors : EachSet (λ x storage. length storage.factors ≡ length storage.map.rows) m.storages
  pub sizes_of_factors : EachSet (λ x storage. All (λ factor. factor ≤ most_size) storage.factors) m.storages
  -- the maps of one space have equal factors
  pub spaces : EachSet (λ x first. EachSet (λ y second. first.space ≡ second.space → first.factors ≡ second.factors) m.storages) m.storages
  pub few : length m.statements < 2147483648

-- an output or local of the program, and a map of its points: the parameters and its indices
abbrev pub is_written : System → ℕ → Type 0
is_written p x = of_variable p.variables (λ variable. not (is_input variable.role)) x ≡ true

abbrev pub width_of : System → ℕ → ℕ
width_of p x = option_map_or (λ variable. variable.domain.width) (slice_get p.variables x) 0

pub record IsMapOf (p : System) (x : ℕ) (f : AffineMap) : Type 0 where
  pub written : is_written p x
  pub columns : f.width ≡ width_of p x

-- all that is set is set for outputs and locals of the program, with the columns of their points
pub record Fits (p : System) (m : TargetMapping) : Type 0 where
  pub times : EachSet (IsMapOf p) m.times
  pub storages : EachSet (λ x storage. IsMapOf p x storage.map) m.storages
  pub statements : All (is_written p) m.statements

-- and each output and local has both maps
pub record IsComplete (p : System) (m : TargetMapping) : Type 0 where
  pub fits : Fits p m
  pub times : (x : ℕ) → is_written p x → (f : AffineMap) × (get m.times x ≡ Some f)
  pub storages : (x : ℕ) → is_written p x → (storage : Storage) × (get m.storages x ≡ Some storage)
