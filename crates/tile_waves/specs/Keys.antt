-- The keys by which instances are put in order.
--
-- The coordinates of an instance in time are cut by the kinds of the dimensions. A band coordinate lies in a tile of
-- its size and a processor's in a block, both counted from the floor of the quotient, so that tiles of negative
-- coordinates have the same size. A wave has the tiles of one outer step and one diagonal of the band.
use Rattle.std.specs.Prelude.{ℕ, ℤ, pos, ◌+ℤ◌, List, [], ◌∷◌, ◌++◌}
use Rattle.std.specs.Int.{int_div_euclid}
use Rattle.az_lin.specs.Affine.{image_of}
use Rattle.execution.specs.declared.instance.Instance.{Instance}
use Rattle.target_map.specs.Kinds.{is_outer, is_band, is_processor, is_inner, tile_sizes}
use Rattle.target_map.specs.Settings.{TargetMapping, order_number}
use Rattle.target_map.specs.Stamps.{part}
use Rattle.target_map.specs.Times.{time_of}
use Rattle.target_map.specs.declared.kind.Kind.{Kind}
use Rattle.target_map.specs.declared.kind.Kind.TheVariants.{Outer, Band, Processor, Inner}

abbrev pub block_sizes : List Kind → List ℕ
block_sizes [] = []
block_sizes (Outer ∷ kinds) = block_sizes kinds
block_sizes (Band size ∷ kinds) = block_sizes kinds
block_sizes (Processor size ∷ kinds) = size ∷ block_sizes kinds
block_sizes (Inner ∷ kinds) = block_sizes kinds

abbrev pub floors : List ℕ → List ℤ → List ℤ
floors [] xs = []
floors (size ∷ sizes) [] = []
floors (size ∷ sizes) (x ∷ xs) = int_div_euclid x (pos size) ∷ floors sizes xs

abbrev pub total : List ℤ → ℤ
total [] = pos 0
total (x ∷ xs) = x +ℤ total xs

module _ (m : TargetMapping) (params : List ℤ) (u : Instance) where
  -- the coordinates in time
  abbrev pub times_of : List ℤ
  times_of = image_of (time_of m u.variable) (params ++ u.point)

  abbrev pub outer_of : List ℤ
  outer_of = part is_outer m.kinds times_of

  abbrev pub band_of : List ℤ
  band_of = part is_band m.kinds times_of

  abbrev pub processor_of : List ℤ
  processor_of = part is_processor m.kinds times_of

  abbrev pub inner_of : List ℤ
  inner_of = part is_inner m.kinds times_of

  abbrev pub tile_coordinates : List ℤ
  tile_coordinates = floors (tile_sizes m.kinds) band_of

  abbrev pub block_coordinates : List ℤ
  block_coordinates = floors (block_sizes m.kinds) processor_of

  -- the order of waves, of the tiles of a wave, and of the instances of a tile
  abbrev pub wave_key : List ℤ
  wave_key = outer_of ++ total tile_coordinates ∷ []

  abbrev pub tile_key : List ℤ
  tile_key = tile_coordinates ++ block_coordinates

  abbrev pub work_key : List ℤ
  work_key = band_of ++ (processor_of ++ (inner_of ++ (pos (order_number m.statements u.variable) ∷ (pos u.variable ∷ u.point))))
