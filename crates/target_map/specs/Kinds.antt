-- The kinds of the dimensions of time, which stand in the order outer, band, processor, inner.
use Rattle.std.specs.Prelude.{ℕ, nat_lt, nat_le, Bool, true, false, not, ◌&&◌, List, [], ◌∷◌}
use Rattle.target_map.specs.declared.kind.Kind.{Kind}
use Rattle.target_map.specs.declared.kind.Kind.TheVariants.{Outer, Band, Processor, Inner}

abbrev pub is_outer : Kind → Bool
is_outer Outer = true
is_outer (Band size) = false
is_outer (Processor size) = false
is_outer Inner = false

abbrev pub is_band : Kind → Bool
is_band Outer = false
is_band (Band size) = true
is_band (Processor size) = false
is_band Inner = false

abbrev pub is_processor : Kind → Bool
is_processor Outer = false
is_processor (Band size) = false
is_processor (Processor size) = true
is_processor Inner = false

abbrev pub is_inner : Kind → Bool
is_inner Outer = false
is_inner (Band size) = false
is_inner (Processor size) = false
is_inner Inner = true

abbrev pub tile_sizes : List Kind → List ℕ
tile_sizes [] = []
tile_sizes (Outer ∷ kinds) = tile_sizes kinds
tile_sizes (Band size ∷ kinds) = size ∷ tile_sizes kinds
tile_sizes (Processor size ∷ kinds) = tile_sizes kinds
tile_sizes (Inner ∷ kinds) = tile_sizes kinds

abbrev pub rank : Kind → ℕ
rank Outer = 0
rank (Band size) = 1
rank (Processor size) = 2
rank Inner = 3

-- no kind has a lower rank than the one before it
abbrev pub rises_from : ℕ → List Kind → Bool
rises_from least [] = true
rises_from least (kind ∷ kinds) = not (nat_lt (rank kind) least) && rises_from (rank kind) kinds

-- the greatest size of a tile or block, and the greatest factor of a memory map
abbrev pub most_size : ℕ
most_size = 1048576

abbrev pub is_size : ℕ → Bool
is_size size = nat_lt 0 size && nat_le size most_size

abbrev pub is_sized : Kind → Bool
is_sized Outer = true
is_sized (Band size) = is_size size
is_sized (Processor size) = is_size size
is_sized Inner = true
