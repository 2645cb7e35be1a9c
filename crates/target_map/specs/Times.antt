-- When and where an instance of a variable is carried out and kept, and when it is before another.
--
-- An instance is an output or local with a point: the parameters and the variable's indices.
use Rattle.std.specs.Prelude.{ℕ, ◌-◌, ℤ, pos, Bool, true, false, List, [], length, filter, slice_get}
use Rattle.std.specs.FinMap.{get}
use Rattle.std.specs.List.{range_with_len}
use Rattle.std.specs.Option.{option_map_or}
use Rattle.az_lin.specs.Affine.{AffineMap, Union, image_of}
use Rattle.az_ast.specs.Shapes.{of_variable}
use Rattle.az_ast.specs.System.{System}
use Rattle.az_ast.specs.declared.program.Role.{Role}
use Rattle.az_ast.specs.declared.program.Role.TheVariants.{Input, Output, Local}
use Rattle.target_map.specs.Before.{Before}
use Rattle.target_map.specs.Kinds.{tile_sizes}
use Rattle.target_map.specs.Settings.{TargetMapping, order_number}
use Rattle.target_map.specs.Stamps.{Stamp, stamp}
use Rattle.target_map.specs.declared.storage.Storage.{Storage}

-- what is set for a variable; a complete mapping lacks nothing, so that what stands for the rest doesn't matter
abbrev pub time_of : TargetMapping → ℕ → AffineMap
time_of m x = option_map_or (λ f. f) (get m.times x) (record { width = 0; rows = [] })

abbrev pub storage_of : TargetMapping → ℕ → Storage
storage_of m x = option_map_or (λ storage. storage) (get m.storages x) (record { space = []; map = record { width = 0; rows = [] }; factors = [] })

abbrev pub domain_of : System → ℕ → Union
domain_of p x = option_map_or (λ variable. variable.domain) (slice_get p.variables x) (record { width = 0; disjuncts = [] })

-- how many indices a variable has, and the outputs in order of declaration
abbrev pub indices_of : System → ℕ → ℕ
indices_of p x = (domain_of p x).width - length p.params

abbrev pub is_output : Role → Bool
is_output Input = false
is_output Output = true
is_output Local = false

abbrev pub outputs_of : System → List ℕ
outputs_of p = filter (of_variable p.variables (λ variable. is_output variable.role)) (range_with_len 0 (length p.variables))

abbrev pub stamp_at : TargetMapping → ℕ → List ℤ → Stamp ℤ
stamp_at m x point = stamp m.kinds (pos (order_number m.statements x)) (image_of (time_of m x) point)

abbrev pub cell_at : TargetMapping → ℕ → List ℤ → List ℤ
cell_at m x point = image_of (storage_of m x).map point

abbrev pub IsBefore : TargetMapping → ℕ → List ℤ → ℕ → List ℤ → Type 0
IsBefore m x a y b = Before (tile_sizes m.kinds) (stamp_at m x a) (stamp_at m y b)
