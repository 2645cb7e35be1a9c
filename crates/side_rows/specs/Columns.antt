-- A column as contracts see it: its name, or none for the constant.
use Rattle.std.specs.Prelude.{Option, Some, None, List, ℕ}
use Rattle.side_rows.specs.declared.column.Column.{Column}
use Rattle.side_rows.specs.declared.column.Column.TheVariants.{Named, Constant}

abbrev pub column_of : Column → Option (List ℕ)
column_of (Named name) = Some name.now
column_of Constant = None
