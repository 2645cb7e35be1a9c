-- The rows of a stamp in memory, as a stamp of rows, and its parts by name.
use Rattle.std.specs.Prelude.{Bool}
use Rattle.az_lin.specs.Affine.{Affine}
use Rattle.order_sets.specs.declared.part.Part.{Part}
use Rattle.order_sets.specs.declared.part.Part.TheVariants as part
use Rattle.order_sets.specs.declared.time_rows.TimeRows.{TimeRows}
use Rattle.target_map.specs.Kinds.{is_outer, is_band, is_processor, is_inner}
use Rattle.target_map.specs.Stamps.{Stamp}
use Rattle.target_map.specs.declared.kind.Kind.{Kind}

abbrev pub stamp_of : TimeRows → Stamp Affine
stamp_of rows = record {
  outer = rows.outer.items;
  band = rows.band.items;
  processor = rows.processor.items;
  tile = rows.tile.items;
}

abbrev pub is_in_part : Part → Kind → Bool
is_in_part part.Outer = is_outer
is_in_part part.Band = is_band
is_in_part part.Processor = is_processor
is_in_part part.Inner = is_inner
