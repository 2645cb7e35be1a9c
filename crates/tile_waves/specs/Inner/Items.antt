-- Instances with their keys, which are sorted.
use Rattle.std.specs.Prelude.{◌≡◌, ℕ, ℤ, pos, List, [], ◌∷◌, ◌++◌, map, All}
use Rattle.std.specs.Cmp.Lexicographic.{slice_cmp}
use Rattle.std.specs.Ordering.{int_cmp, ordering_then}
use Rattle.std.specs.declared.cmp.Ordering.{Ordering}
use Rattle.execution.specs.declared.instance.Instance.{Instance}
use Rattle.target_map.specs.Kinds.{is_outer, is_band, is_processor, is_inner, tile_sizes}
use Rattle.target_map.specs.Settings.{TargetMapping, order_number}
use Rattle.target_map.specs.Stamps.{part}
use Rattle.tile_waves.specs.Keys.{block_sizes, floors, total, wave_key, tile_key, work_key}
use Rattle.tile_waves.specs.declared.item.Item.{Item}

abbrev pub item_cmp : Item → Item → Ordering
item_cmp a b = ordering_then (slice_cmp int_cmp a.wave b.wave) (ordering_then (slice_cmp int_cmp a.tile b.tile) (slice_cmp int_cmp a.work b.work))

-- the keys, from the coordinates in time
abbrev pub wave_at : TargetMapping → List ℤ → List ℤ
wave_at m times = part is_outer m.kinds times ++ total (floors (tile_sizes m.kinds) (part is_band m.kinds times)) ∷ []

abbrev pub tile_at : TargetMapping → List ℤ → List ℤ
tile_at m times = floors (tile_sizes m.kinds) (part is_band m.kinds times) ++ floors (block_sizes m.kinds) (part is_processor m.kinds times)

abbrev pub work_at : TargetMapping → List ℤ → ℕ → List ℤ → List ℤ
work_at m times x point =
    part is_band m.kinds times ++ (part is_processor m.kinds times ++ (part is_inner m.kinds times ++ (pos (order_number m.statements x) ∷ (pos x ∷ point))))

-- an item has the keys of its instance
pub record IsItem (m : TargetMapping) (params : List ℤ) (item : Item) : Type 0 where
  pub wave : item.wave ≡ wave_key m params item.instance
  pub tile : item.tile ≡ tile_key m params item.instance
  pub work : item.work ≡ work_key m params item.instance

abbrev pub instances_of : List Item → List Instance
instances_of items = map (λ item. item.instance) items

abbrev pub at_points : ℕ → List (List ℤ) → List Instance
at_points x points = map (λ point. record { variable = x; point = point }) points

-- items put behind others: one for each point
pub record IsMore (m : TargetMapping) (params : List ℤ) (x : ℕ) (before after : List Item) (points : List (List ℤ)) : Type 0 where
  pub added : List Item
  pub whole : after ≡ before ++ added
  pub instances : instances_of added ≡ at_points x points
  pub keys : All (IsItem m params) added
