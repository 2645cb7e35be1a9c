-- Rows of the width of every place at which an expression may stand.
use Rattle.std.specs.Prelude.{ℕ}
use Rattle.az_ast.specs.Placed.{IsAtWidth}
use Rattle.az_ast.specs.Rows.{HasRowsAt}
use Rattle.az_ast.specs.Term.{Term}

abbrev pub KeepsRows : Term → Type 0
KeepsRows t = (count width : ℕ) → IsAtWidth count t width → HasRowsAt t width
