-- What the parts of reading a text answer.
use Rattle.std.specs.Prelude.{◌≡◌, ℕ, ◌<◌, ℤ, List, map, Contains, Some, None, Result, Ok, Err, slice_get}
use Rattle.az_ast.specs.Tables.{Rows}
use Rattle.table_data.specs.Records.{Record}
use Rattle.table_data.specs.TableOf.{points_of, SaysRow, SayRows, HaveWrong}
use Rattle.table_data.specs.Inner.Rows.{SaysNoRow}
use Rattle.table_data.specs.Inner.Filling.{Points, Values, Stands, Put, IsFilled}
use Rattle.table_data.specs.declared.fault.RowKind.{RowKind}
use Rattle.table_data.specs.declared.fault.RowKind.TheVariants.{Fields, Number, Outside, Twice, Missing}
use Rattle.table_data.specs.declared.fault.TableFault.{TableFault}
use Rattle.table_data.specs.declared.fault.TableFault.TheVariants.{BadRow, Overflow, Entry, Limit, Memory}

-- putting the row of one record
abbrev pub Places : ℕ → Points → Values → Record → Values → Result ℕ RowKind → Type 0
Places width points old fields new (Ok place) =
    (row : List ℤ × ℤ) × SaysRow width fields row × Put points old row new place
Places width points old fields new (Err Fields) = SaysNoRow width fields Fields
Places width points old fields new (Err Number) = SaysNoRow width fields Number
Places width points old fields new (Err Outside) =
    (row : List ℤ × ℤ) × SaysRow width fields row × (Contains points row.0 → ⊥)
Places width points old fields new (Err Twice) =
    (row : List ℤ × ℤ) × SaysRow width fields row × ((value : ℤ) × (place : ℕ) × Stands points old (row.0, value) place)
Places width points old fields new (Err (Missing point)) = ⊥

-- reading all records
abbrev pub Fills : ℕ → Points → List Record → Result Values TableFault → Type 0
Fills width points records (Ok values) =
    (rows : Rows) × SayRows width (Contains points) records rows × IsFilled points values rows
Fills width points records (Err (BadRow number kind)) = HaveWrong width (Contains points) records number kind
Fills width points records (Err Overflow) = ⊥
Fills width points records (Err Entry) = ⊥
Fills width points records (Err (Limit limit)) = ⊥
Fills width points records (Err Memory) = Unit {0}

-- the first place without a value
pub record IsFirstFree (points : Points) (values : Values) (point : List ℤ) (place : ℕ) : Type 0 where
  pub here : slice_get points place ≡ Some point
  pub free : slice_get values place ≡ Some None
  pub before : (k : ℕ) → k < place → (v : ℤ) × (slice_get values k ≡ Some (Some v))

abbrev pub LacksAt : Points → Values → ℕ → RowKind → Type 0
LacksAt points values number Fields = ⊥
LacksAt points values number Number = ⊥
LacksAt points values number Outside = ⊥
LacksAt points values number Twice = ⊥
LacksAt points values number (Missing point) = (number ≡ 0) × ((place : ℕ) × IsFirstFree points values point place)

-- the points with their values
abbrev pub Completes : Points → Values → Result Rows TableFault → Type 0
Completes points values (Ok table) = (points_of table ≡ points) × (map (λ row. Some row.1) table ≡ values)
Completes points values (Err (BadRow number kind)) = LacksAt points values number kind
Completes points values (Err Overflow) = ⊥
Completes points values (Err Entry) = ⊥
Completes points values (Err (Limit limit)) = ⊥
Completes points values (Err Memory) = Unit {0}
