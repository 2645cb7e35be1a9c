-- What is read of one record.
use Rattle.std.specs.Prelude.{◌≡◌, ℕ, ◌+◌, ℤ, List, length, Any, Result, Ok, Err}
use Rattle.table_data.specs.Numbers.{IsNumber}
use Rattle.table_data.specs.Records.{Record}
use Rattle.table_data.specs.TableOf.{SaysRow}
use Rattle.table_data.specs.declared.fault.RowKind.{RowKind}
use Rattle.table_data.specs.declared.fault.RowKind.TheVariants.{Fields, Number, Outside, Twice, Missing}

-- the record has another length, or a field that is no number
abbrev pub SaysNoRow : ℕ → Record → RowKind → Type 0
SaysNoRow width fields Fields = length fields ≡ width + 1 → ⊥
SaysNoRow width fields Number = (length fields ≡ width + 1) × Any (λ field. (z : ℤ) → IsNumber field z → ⊥) fields
SaysNoRow width fields Outside = ⊥
SaysNoRow width fields Twice = ⊥
SaysNoRow width fields (Missing point) = ⊥

abbrev pub ReadsRow : ℕ → Record → List ℤ → Result ℤ RowKind → Type 0
ReadsRow width fields point (Ok value) = SaysRow width fields (point, value)
ReadsRow width fields point (Err kind) = SaysNoRow width fields kind
