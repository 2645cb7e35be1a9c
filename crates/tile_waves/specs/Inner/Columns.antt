-- The columns of a key, dimension by dimension.
use Rattle.std.specs.Prelude.{ℤ, pos, List, [], ◌∷◌, ◌++◌, Option, Some, None, option_to_list}
use Rattle.std.specs.Int.{int_div_euclid}
use Rattle.target_map.specs.declared.kind.Kind.{Kind}
use Rattle.target_map.specs.declared.kind.Kind.TheVariants as kind
use Rattle.tile_waves.specs.declared.column.Column.{Column}
use Rattle.tile_waves.specs.declared.column.Column.TheVariants.{Outer, Tile, Block, Band, Processor, Inner}

abbrev pub outer_entry : Kind → ℤ → Option ℤ
outer_entry kind.Outer x = Some x
outer_entry (kind.Band size) x = None
outer_entry (kind.Processor size) x = None
outer_entry kind.Inner x = None

abbrev pub tile_entry : Kind → ℤ → Option ℤ
tile_entry kind.Outer x = None
tile_entry (kind.Band size) x = Some (int_div_euclid x (pos size))
tile_entry (kind.Processor size) x = None
tile_entry kind.Inner x = None

abbrev pub block_entry : Kind → ℤ → Option ℤ
block_entry kind.Outer x = None
block_entry (kind.Band size) x = None
block_entry (kind.Processor size) x = Some (int_div_euclid x (pos size))
block_entry kind.Inner x = None

abbrev pub band_entry : Kind → ℤ → Option ℤ
band_entry kind.Outer x = None
band_entry (kind.Band size) x = Some x
band_entry (kind.Processor size) x = None
band_entry kind.Inner x = None

abbrev pub processor_entry : Kind → ℤ → Option ℤ
processor_entry kind.Outer x = None
processor_entry (kind.Band size) x = None
processor_entry (kind.Processor size) x = Some x
processor_entry kind.Inner x = None

abbrev pub inner_entry : Kind → ℤ → Option ℤ
inner_entry kind.Outer x = None
inner_entry (kind.Band size) x = None
inner_entry (kind.Processor size) x = None
inner_entry kind.Inner x = Some x

abbrev pub entry : Column → Kind → ℤ → Option ℤ
entry Outer kind x = outer_entry kind x
entry Tile kind x = tile_entry kind x
entry Block kind x = block_entry kind x
entry Band kind x = band_entry kind x
entry Processor kind x = processor_entry kind x
entry Inner kind x = inner_entry kind x

abbrev pub column : Column → List Kind → List ℤ → List ℤ
column c [] xs = []
column c (kind ∷ kinds) [] = []
column c (kind ∷ kinds) (x ∷ xs) = option_to_list (entry c kind x) ++ column c kinds xs
