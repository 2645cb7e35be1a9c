-- Rows as callers hand them in and take them out.
use Rattle.std.specs.Prelude.{◌≡◌, List, length, All}
use Rattle.az_lin.specs.Affine.{Affine}
use Rattle.az_lin.specs.Combination.{HasWideEntries}
use Rattle.farkas_find.specs.declared.wide.WideRow.{WideRow}

abbrev pub affine_of : WideRow → Affine
affine_of row = record { coefs = row.coefs; konst = row.konst }

abbrev pub HasWideRow : WideRow → Type 0
HasWideRow row = HasWideEntries (affine_of row)

abbrev pub HaveOneWidth : List WideRow → Type 0
HaveOneWidth rows = All (λ row. All (λ other. length row.coefs ≡ length other.coefs) rows) rows
