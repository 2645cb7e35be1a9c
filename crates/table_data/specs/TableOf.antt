-- Which table some records say, and what is wrong with records that say none.
--
-- A record says a row by the numbers of its fields: first the point's indices, then the value. The table has these rows
-- in the order of their points, and exactly one for each point that is wanted.
use Rattle.std.specs.Prelude.{◌≡◌, ◌↔◌, ℕ, ◌+◌, ℤ, List, [], ◌∷◌, ◌++◌, length, map, All, Any, Contains}
use Rattle.std.specs.List.{AllZip}
use Rattle.az_ast.specs.Points.{Precedes}
use Rattle.az_ast.specs.Tables.{Rows, IsTable}
use Rattle.table_data.specs.Numbers.{IsNumber}
use Rattle.table_data.specs.Records.{Record}
use Rattle.table_data.specs.declared.fault.RowKind.{RowKind}
use Rattle.table_data.specs.declared.fault.RowKind.TheVariants.{Fields, Number, Outside, Twice, Missing}

abbrev pub points_of : Rows → List (List ℤ)
points_of rows = map (λ row. row.0) rows

abbrev pub AreDistinct : List (List ℤ) → Type 0
AreDistinct [] = Unit {0}
AreDistinct (point ∷ points) = (Contains points point → ⊥) × AreDistinct points

abbrev pub SaysRow : ℕ → Record → List ℤ × ℤ → Type 0
SaysRow width fields row = (length row.0 ≡ width) × AllZip IsNumber fields (row.0 ++ row.1 ∷ [])

-- for points of so many indices, of which these are wanted
module _ (width : ℕ) (IsWanted : List ℤ → Type 0) where
  -- the records say these rows, all at wanted points and no two at one point
  pub record SayRows (records : List Record) (rows : Rows) : Type 0 where
    pub said : AllZip (SaysRow width) records rows
    pub wanted : All IsWanted (points_of rows)
    pub once : AreDistinct (points_of rows)

  pub record SayTable (records : List Record) (table : Rows) : Type 0 where
    pub rows : Rows
    pub said : SayRows records rows
    pub same : (row : List ℤ × ℤ) → Contains rows row ↔ Contains table row
    pub increasing : IsTable table
    pub every : (k : List ℤ) → IsWanted k → Contains (points_of table) k

  -- what is wrong with a record behind those that say the rows
  abbrev pub IsWrong : Rows → Record → RowKind → Type 0
  IsWrong rows fields Fields = length fields ≡ width + 1 → ⊥
  IsWrong rows fields Number = (length fields ≡ width + 1) × Any (λ field. (z : ℤ) → IsNumber field z → ⊥) fields
  IsWrong rows fields Outside = (row : List ℤ × ℤ) × SaysRow width fields row × (IsWanted row.0 → ⊥)
  IsWrong rows fields Twice = (row : List ℤ × ℤ) × SaysRow width fields row × Contains (points_of rows) row.0
  IsWrong rows fields (Missing point) = ⊥

  -- the first wrong record, by its number from 1
  pub record HaveWrong (records : List Record) (number : ℕ) (kind : RowKind) : Type 0 where
    pub before : List Record
    pub fields : Record
    pub after : List Record
    pub place : records ≡ before ++ fields ∷ after
    pub counted : number ≡ length before + 1
    pub rows : Rows
    pub said : SayRows before rows
    pub wrong : IsWrong rows fields kind

  -- no record is wrong, and this is the first wanted point without a row
  pub record Lack (records : List Record) (point : List ℤ) : Type 0 where
    pub rows : Rows
    pub said : SayRows records rows
    pub wanted : IsWanted point
    pub none : Contains (points_of rows) point → ⊥
    pub first : (k : List ℤ) → IsWanted k → Precedes k point → Contains (points_of rows) k

  abbrev pub HaveBadRow : List Record → ℕ → RowKind → Type 0
  HaveBadRow records number Fields = HaveWrong records number Fields
  HaveBadRow records number Number = HaveWrong records number Number
  HaveBadRow records number Outside = HaveWrong records number Outside
  HaveBadRow records number Twice = HaveWrong records number Twice
  HaveBadRow records number (Missing point) = (number ≡ 0) × Lack records point
