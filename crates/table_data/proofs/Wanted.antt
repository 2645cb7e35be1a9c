-- From the listed points to the wanted ones, and from filled places to the table or the first free place.
use Rattle.std.proofs.Common.{◌≡◌, ℕ, ◌<◌, List, length, Some, map, sym, ap, subst, arith, ◌∙◌}
use Rattle.std.specs.Prelude.{ℤ, slice_get, slice_index_or, Contains, ◌↔◌}
use Rattle.std.specs.Option.{option_map}
use Rattle.std.proofs.lemmas.List.{length-map}
use Rattle.std.proofs.lemmas.List.Elements.{All-weaker}
use Rattle.std.proofs.lemmas.Option.{slice_get-map, slice_get_within, slice_get-get_or}
use Rattle.az_ast.specs.Points.{IsIncreasing}
use Rattle.az_ast.specs.Tables.{Rows}
use Rattle.table_data.specs.Records.{Record}
use Rattle.table_data.specs.TableOf.{points_of, SayRows, SayTable, IsWrong, HaveWrong, HaveBadRow, Lack}
use Rattle.table_data.specs.Inner.Filling.{Points, Values, Stands, IsFilled}
use Rattle.table_data.specs.Inner.Answers.{IsFirstFree}
use Rattle.table_data.specs.declared.fault.RowKind.{RowKind}
use Rattle.table_data.specs.declared.fault.RowKind.TheVariants as kind
use Rattle.table_data.proofs.Lists.{get-contains, contains-get}
use Rattle.table_data.proofs.OrderedPoints.{places-same, places-ordered}
use Rattle.table_data.proofs.PlacesFilled.{Row, row-of_point, point-of_row, same_row}

module _ (width : ℕ) (P Q : List ℤ → Type 0) (same : (k : List ℤ) → P k ↔ Q k) where
  rows_for : (records : List Record) (rows : Rows) → SayRows width P records rows → SayRows width Q records rows
  rows_for records rows said = record {
    said = said.said;
    wanted = All-weaker P Q (λ k p. (same k).0 p) (points_of rows) said.wanted;
    once = said.once;
  }

  pub table_for : (records : List Record) (table : Rows) → SayTable width P records table → SayTable width Q records table
  table_for records table say = record {
    rows = say.rows;
    said = rows_for records say.rows say.said;
    same = say.same;
    increasing = say.increasing;
    every = λ k q. say.every k ((same k).1 q);
  }

  wrong_for : (rows : Rows) (fields : Record) (k : RowKind) → IsWrong width P rows fields k → IsWrong width Q rows fields k
  wrong_for rows fields kind.Fields wrong = wrong
  wrong_for rows fields kind.Number wrong = wrong
  wrong_for rows fields kind.Outside (row, says, none) = (row, says, λ q. none ((same row.0).1 q))
  wrong_for rows fields kind.Twice wrong = wrong
  wrong_for rows fields (kind.Missing point) wrong = wrong

  have_wrong_for : (records : List Record) (number : ℕ) (k : RowKind) → HaveWrong width P records number k → HaveWrong width Q records number k
  have_wrong_for records number k have = record {
    before = have.before;
    fields = have.fields;
    after = have.after;
    place = have.place;
    counted = have.counted;
    rows = have.rows;
    said = rows_for have.before have.rows have.said;
    wrong = wrong_for have.rows have.fields k have.wrong;
  }

  -- a record that is wrong isn't missing
  pub bad_row_for : (records : List Record) (number : ℕ) (k : RowKind) → HaveWrong width P records number k → HaveBadRow width Q records number k
  bad_row_for records number kind.Fields have = have_wrong_for records number kind.Fields have
  bad_row_for records number kind.Number have = have_wrong_for records number kind.Number have
  bad_row_for records number kind.Outside have = have_wrong_for records number kind.Outside have
  bad_row_for records number kind.Twice have = have_wrong_for records number kind.Twice have
  bad_row_for records number (kind.Missing point) have = absurd have.wrong

  pub lack_for : (records : List Record) (point : List ℤ) → Lack width P records point → Lack width Q records point
  lack_for records point lack = record {
    rows = lack.rows;
    said = rows_for records lack.rows lack.said;
    wanted = (same point).0 lack.wanted;
    none = lack.none;
    first = λ k q less. lack.first k ((same k).1 q) less;
  }

module _ (width : ℕ) (points : Points) (rise : IsIncreasing points) (values : Values) (records : List Record) (rows : Rows) (said : SayRows width (Contains points) records rows) (filled : IsFilled points values rows) where
  -- every place has a value
  pub complete : (table : Rows) → points_of table ≡ points → map (λ (row : Row). Some row.1) table ≡ values → SayTable width (Contains points) records table
  complete table own given = record {
    rows = rows;
    said = said;
    same = λ row. (
      (λ c. let (place, st) = filled.each row c in get-contains table place row (listed place row st)),
      (λ c. let (place, at) = contains-get table row c in filled.only row place (stands place row at)),
    );
    increasing = subst IsIncreasing (sym own) rise;
    every = λ k c. subst (λ (ps : Points). Contains ps k) (sym own) c;
  }
    where
      stands : (place : ℕ) (row : Row) → slice_get table place ≡ Some row → Stands points values row place
      stands place row at = record {
        point = ap (λ (ps : Points). slice_get ps place) (sym own) ∙ slice_get-map (λ (r : Row). r.0) table place ∙ ap (option_map (λ (r : Row). r.0)) at;
        value = ap (λ (vs : Values). slice_get vs place) (sym given) ∙ slice_get-map (λ (r : Row). Some r.1) table place ∙ ap (option_map (λ (r : Row). Some r.1)) at;
      }

      listed : (place : ℕ) (row : Row) → Stands points values row place → slice_get table place ≡ Some row
      listed place row st =
          let within : place < length points = slice_get_within points place row.0 st.point in
          let here : place < length table = omega (arith, within, ap (λ (ps : Points). length ps) own, length-map table (λ (r : Row). r.0)) in
          let r = slice_index_or table place row in
          let at = slice_get-get_or table place row here in
          let is = stands place r at in
          let p = is.point in
          let q = st.point in
          let v = is.value in
          let w = st.value in
          let e : r.0 ≡ row.0 = cc in
          let f : r.1 ≡ row.1 = cc in
          at ∙ ap (λ (x : Row). Some x) (same_row r row e f)

  -- the first place without a value
  pub lacking : (point : List ℤ) (place : ℕ) → IsFirstFree points values point place → Lack width (Contains points) records point
  lacking point place free = record {
    rows = rows;
    said = said;
    wanted = get-contains points place point free.here;
    none = λ c.
        let (v, listed) = row-of_point rows point c in
        let (other, st) = filled.each (point, v) listed in
        let one = places-same points rise other place point st.point free.here in
        let has : slice_get values place ≡ Some (Some v) = subst (λ n. slice_get values n ≡ Some (Some v)) one st.value in
        let none = free.free in
        cc;
    first = λ k c less.
        let (j, at) = contains-get points k c in
        let (v, has) = free.before j (places-ordered points rise j place k point at free.here less) in
        point-of_row rows (k, v) (filled.only (k, v) j (record { point = at; value = has }));
  }
