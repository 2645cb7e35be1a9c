-- What the rows have that a call leaves, so that they can be handed to the next call.
use Rattle.std.specs.Prelude.{◌≡◌, ◌≢◌, ℕ, List, length, All, pos, slice_index_or}
use Rattle.std.specs.List.{AllPairs}
use Rattle.farkas_find.specs.Rows.{HasWideRow, HaveOneWidth}
use Rattle.farkas_find.specs.declared.wide.WideRow.{WideRow}
use Rattle.farkas_find.specs.declared.left.Left.{Left}
use Rattle.farkas_find.specs.declared.left.Left.TheVariants.{Contradiction, Rows}

abbrev pub HaveColumns : ℕ → List WideRow → Type 0
HaveColumns width rows = All (λ row. length row.coefs ≡ width) rows

-- rows of this width; rows of one width; entries in range
abbrev pub KeepsWidth : ℕ → Left → Type 0
KeepsWidth width Contradiction = Unit {0}
KeepsWidth width (Rows left) = HaveColumns width left

abbrev pub KeepsOneWidth : Left → Type 0
KeepsOneWidth Contradiction = Unit {0}
KeepsOneWidth (Rows left) = HaveOneWidth left

abbrev pub KeepsRange : Left → Type 0
KeepsRange Contradiction = Unit {0}
KeepsRange (Rows left) = All HasWideRow left

-- no row has the column
abbrev pub Lacks : ℕ → Left → Type 0
Lacks column Contradiction = Unit {0}
Lacks column (Rows left) = All (λ row. slice_index_or row.coefs column (pos 0) ≡ pos 0) left

-- no two rows have the same coefficients
abbrev pub HasNoTwins : Left → Type 0
HasNoTwins Contradiction = Unit {0}
HasNoTwins (Rows left) = AllPairs (λ row other. row.coefs ≢ other.coefs) left
