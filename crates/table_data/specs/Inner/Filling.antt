-- How far the places of the wanted points are filled with values.
use Rattle.std.specs.Prelude.{◌≡◌, ◌<◌, ℕ, ℤ, List, ◌++◌, length, Contains, Option, Some, None, Result, Ok, Err, slice_get, slice_set}
use Rattle.az_ast.specs.Tables.{Rows}
use Rattle.table_data.specs.Records.{Record}
use Rattle.table_data.specs.TableOf.{SayRows}
use Rattle.table_data.specs.declared.fault.RowKind.{RowKind}
use Rattle.table_data.specs.declared.fault.RowKind.TheVariants.{Fields, Number, Outside, Twice, Missing}

abbrev pub Points : Type 0
Points = List (List ℤ)

abbrev pub Values : Type 0
Values = List (Option ℤ)

-- the point stands at this place, and has this value
pub record Stands (points : Points) (values : Values) (row : List ℤ × ℤ) (place : ℕ) : Type 0 where
  pub point : slice_get points place ≡ Some row.0
  pub value : slice_get values place ≡ Some (Some row.1)

-- what putting a value at a point's place does
pub record Put (points : Points) (old : Values) (row : List ℤ × ℤ) (new : Values) (place : ℕ) : Type 0 where
  pub inside : place < length points
  pub point : slice_get points place ≡ Some row.0
  pub free : slice_get old place ≡ Some None
  pub after : new ≡ slice_set old place (Some row.1)

abbrev pub Puts : Points → Values → List ℤ × ℤ → Values → Result ℕ RowKind → Type 0
Puts points old row new (Ok place) = Put points old row new place
Puts points old row new (Err Outside) = Contains points row.0 → ⊥
Puts points old row new (Err Twice) = (value : ℤ) × (place : ℕ) × Stands points old (row.0, value) place
Puts points old row new (Err Fields) = ⊥
Puts points old row new (Err Number) = ⊥
Puts points old row new (Err (Missing point)) = ⊥

-- exactly the rows have a value at their points' places
pub record IsFilled (points : Points) (values : Values) (rows : Rows) : Type 0 where
  pub lengths : length values ≡ length points
  pub only : (row : List ℤ × ℤ) (place : ℕ) → Stands points values row place → Contains rows row
  pub each : (row : List ℤ × ℤ) → Contains rows row → (place : ℕ) × Stands points values row place

-- so many of the records were read, and these are left
pub record HasRead (width : ℕ) (points : Points) (values : Values) (records : List Record) (number : ℕ) (rest : List Record) : Type 0 where
  pub before : List Record
  pub rows : Rows
  pub place : records ≡ before ++ rest
  pub counted : number ≡ length before
  pub said : SayRows width (Contains points) before rows
  pub filled : IsFilled points values rows
