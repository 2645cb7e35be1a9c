-- How the places of the wanted points are filled, record by record.
use Rattle.std.proofs.Common.{◌≡◌, ◌≢◌, ℕ, zero, suc, ◌+◌, ◌<◌, List, [], ◌∷◌, ◌++◌, length, Option, Some, None, Result, Ok, Err, refl, sym, ap, subst, arith, ◌∙◌, inl, inr, ⊎_elim, append_assoc, append-nil, length-append, replicate, to_z, of_z}
use Rattle.std.specs.Prelude.{ℤ, pos, slice_get, slice_set, slice_index_or, Contains, All, ◌⊎◌}
use Rattle.std.specs.List.{AllZip}
use Rattle.std.specs.Option.{option_map}
use Rattle.std.specs.Int.{w64}
use Rattle.std.proofs.lemmas.Int.{to_z-of_z}
use Rattle.std.proofs.lemmas.Bool.{cases_eq}
use Rattle.std.proofs.lemmas.List.{get_or-map, map_push, length-set, length-map, length_push, length-replicate}
use Rattle.std.proofs.lemmas.List.Elements.{Contains-get_or, Contains-push, Contains-push_cases, Contains-append_left, All-push, All-nil}
use Rattle.std.proofs.lemmas.Option.{slice_get-map}
use Rattle.az_ast.specs.Points.{IsIncreasing}
use Rattle.az_ast.specs.Tables.{Rows}
use Rattle.az_ast.specs.Operators.{IsWord}
use Rattle.table_data.specs.Numbers.{IsNumber}
use Rattle.table_data.specs.Records.{Record, records_of}
use Rattle.table_data.specs.TableOf.{points_of, AreDistinct, SaysRow, SayRows, IsWrong, HaveWrong}
use Rattle.table_data.specs.Inner.Answers.{Places, Fills}
use Rattle.table_data.specs.Inner.Filling.{Points, Values, Stands, Put, Puts, IsFilled, HasRead}
use Rattle.table_data.specs.declared.fault.RowKind.{RowKind}
use Rattle.table_data.specs.declared.fault.RowKind.TheVariants as kind
use Rattle.table_data.proofs.Lists.{get-contains, contains-get, get-set_same, get-set_other, zip-push}
use Rattle.table_data.proofs.RecordsLeft.{few-records}
use Rattle.table_data.proofs.OrderedPoints.{places-same}

abbrev pub Row : Type 0
Row = List ℤ × ℤ

pub row-of_point : (rows : Rows) (k : List ℤ) → Contains (points_of rows) k → (v : ℤ) × Contains rows (k, v)
row-of_point rows k (i, h, e) =
    let here : i < length rows = omega (arith, h, length-map rows (λ (row : Row). row.0)) in
    let d : Row = (k, pos 0) in
    let row = slice_index_or rows i d in
    let is : row.0 ≡ k = sym (get_or-map (λ (r : Row). r.0) rows i d k here) ∙ e in
    (row.1, subst (λ (q : List ℤ). Contains rows (q, row.1)) is (Contains-get_or rows i d here))

pub point-of_row : (rows : Rows) (row : Row) → Contains rows row → Contains (points_of rows) row.0
point-of_row rows row c =
    let (i, at) = contains-get rows row c in
    get-contains (points_of rows) i row.0 (slice_get-map (λ (r : Row). r.0) rows i ∙ ap (λ (o : Option Row). option_map (λ (r : Row). r.0) o) at)

points-push : (rows : Rows) (row : Row) → points_of (rows ++ row ∷ []) ≡ points_of rows ++ row.0 ∷ []
points-push rows row = map_push (λ (r : Row). r.0) rows row

distinct-push : (ps : List (List ℤ)) (p : List ℤ) → AreDistinct ps → (Contains ps p → ⊥) → AreDistinct (ps ++ p ∷ [])
distinct-push [] p d none = (none, tt)
distinct-push (q ∷ ps) p d none = (
  (λ c. ⊎_elim d.0 (λ e. none (0, omega arith, sym e)) (Contains-push_cases ps p q c)),
  distinct-push ps p d.1 (λ c. none (let (i, h, e) = c in (suc i, omega (arith, h), e))),
)

pub same_row : (a b : Row) → a.0 ≡ b.0 → a.1 ≡ b.1 → a ≡ b
same_row a b e f = λ i. (e i, f i)

-- nothing is read yet
get-replicate : {A : Type 0} (n i : ℕ) (a x : A) → slice_get (replicate n a) i ≡ Some x → a ≡ x
get-replicate zero i a x e = cc e
get-replicate (suc n) zero a x e = cc
get-replicate (suc n) (suc i) a x e = get-replicate n i a x e

pub nothing_read : (width : ℕ) (points : Points) (values : Values) (records all : List Record) → values ≡ replicate (length points) None → all ≡ records → HasRead width points values records 0 all
nothing_read width points values records all is same = record {
  before = [];
  rows = [];
  place = sym same;
  counted = refl;
  said = record { said = tt; wanted = All-nil (Contains points); once = tt };
  filled = record {
    lengths = ap (λ (vs : Values). length vs) is ∙ length-replicate (length points) None;
    only = λ row place st.
        let has : slice_get (replicate (length points) None) place ≡ Some (Some row.1) = ap (λ (vs : Values). slice_get vs place) (sym is) ∙ st.value in
        let none = get-replicate (length points) place None (Some row.1) has in
        cc;
    each = λ row c. absurd (let (i, h, e) = c in omega (arith, h));
  };
}

module _ (points : Points) (rise : IsIncreasing points) where
  none-yet : (old new : Values) (rows : Rows) (row : Row) (place : ℕ) → IsFilled points old rows → Put points old row new place → Contains (points_of rows) row.0 → ⊥
  none-yet old new rows row place filled put c =
      let (v, listed) = row-of_point rows row.0 c in
      let (other, st) = filled.each (row.0, v) listed in
      let one : other ≡ place = places-same points rise other place row.0 st.point put.point in
      let has : slice_get old place ≡ Some (Some v) = subst (λ n. slice_get old n ≡ Some (Some v)) one st.value in
      let free = put.free in
      cc

  value-kept : (old new : Values) (row other : Row) (place place' : ℕ) → Put points old row new place → Stands points old other place' → Stands points new other place'
  value-kept old new row other place place' put st =
      let differs : place' ≢ place = (λ e. let has : slice_get old place ≡ Some (Some other.1) = subst (λ n. slice_get old n ≡ Some (Some other.1)) e st.value in let free = put.free in cc) in
      record {
        point = st.point;
        value = ap (λ (vs : Values). slice_get vs place') put.after ∙ get-set_other old place place' (Some row.1) differs ∙ st.value;
      }

  value-new : (old new : Values) (row other : Row) (place place' : ℕ) → Put points old row new place → Stands points new other place' → Stands points old other place' ⊎ (row ≡ other)
  value-new old new row other place place' put st =
      let after : slice_get (slice_set old place (Some row.1)) place' ≡ Some (Some other.1) = sym (ap (λ (vs : Values). slice_get vs place') put.after) ∙ st.value in
      elim (cases_eq place' place) [
        | inl same ↦
            let at_point : slice_get points place ≡ Some other.0 = subst (λ n. slice_get points n ≡ Some other.0) same st.point in
            let at_value : slice_get (slice_set old place (Some row.1)) place ≡ Some (Some other.1) = subst (λ n. slice_get (slice_set old place (Some row.1)) n ≡ Some (Some other.1)) same after in
            let put_value = get-set_same old place None (Some row.1) put.free in
            let put_point = put.point in
            let e : row.0 ≡ other.0 = cc in
            let f : row.1 ≡ other.1 = cc in
            inr (same_row row other e f)
        | inr differs ↦ inl (record { point = st.point; value = sym (get-set_other old place place' (Some row.1) differs) ∙ after })
      ]

  pub filled-more : (old new : Values) (rows : Rows) (row : Row) (place : ℕ) → IsFilled points old rows → Put points old row new place → IsFilled points new (rows ++ row ∷ [])
  filled-more old new rows row place filled put = record {
    lengths = ap (λ (vs : Values). length vs) put.after ∙ length-set old place (Some row.1) ∙ filled.lengths;
    only = λ other place' st. elim (value-new old new row other place place' put st) [
      | inl before ↦ Contains-append_left rows (row ∷ []) other (filled.only other place' before)
      | inr same ↦ subst (λ (r : Row). Contains (rows ++ row ∷ []) r) same (Contains-push rows row)
    ];
    each = λ other c. elim (Contains-push_cases rows row other c) [
      | inl before ↦ (let (place', st) = filled.each other before in (place', value-kept old new row other place place' put st))
      | inr same ↦ (
        place,
        record {
          point = put.point ∙ ap (λ (r : Row). Some r.0) same;
          value = ap (λ (vs : Values). slice_get vs place) put.after ∙ get-set_same old place None (Some row.1) put.free ∙ ap (λ (r : Row). Some (Some r.1)) same;
        },
      )
    ];
  }

  module _ (width : ℕ) (records : List Record) where
    pub read-more : (old new : Values) (number : ℕ) (fields : Record) (rest : List Record) (row : Row) (place : ℕ)
        → HasRead width points old records number (fields ∷ rest) → SaysRow width fields row → Put points old row new place
        → HasRead width points new records (number + 1) rest
    read-more old new number fields rest row place read says put = record {
      before = read.before ++ fields ∷ [];
      rows = read.rows ++ row ∷ [];
      place = read.place ∙ sym (append_assoc read.before (fields ∷ []) rest);
      counted = (let more = length_push read.before fields in omega (arith, read.counted, more));
      said = record {
        said = zip-push (SaysRow width) read.before read.rows fields row read.said.said says;
        wanted = subst (λ (ps : Points). All (Contains points) ps) (sym (points-push read.rows row)) (All-push (Contains points) (points_of read.rows) row.0 read.said.wanted (get-contains points place row.0 put.point));
        once = subst AreDistinct (sym (points-push read.rows row)) (distinct-push (points_of read.rows) row.0 read.said.once (none-yet old new read.rows row place read.filled put));
      };
      filled = filled-more old new read.rows row place read.filled put;
    }

    pub read-wrong : (values : Values) (number : ℕ) (fields : Record) (rest : List Record) (k : RowKind)
        → (read : HasRead width points values records number (fields ∷ rest)) → IsWrong width (Contains points) read.rows fields k → HaveWrong width (Contains points) records (number + 1) k
    read-wrong values number fields rest k read wrong = record {
      before = read.before;
      fields = fields;
      after = rest;
      place = read.place;
      counted = ap (λ n. n + 1) read.counted;
      rows = read.rows;
      said = read.said;
      wrong = wrong;
    }

    pub read-all : (values : Values) (number : ℕ) → (read : HasRead width points values records number []) → SayRows width (Contains points) records read.rows
    read-all values number read = subst (λ (rs : List Record). SayRows width (Contains points) rs read.rows) (sym (read.place ∙ append-nil read.before)) read.said

    -- the record that is read next, with what putting its row answered
    pub places_more : (old new : Values) (number : ℕ) (all rest : List Record) (fields : Record) (place : ℕ)
        → HasRead width points old records number all → all ≡ fields ∷ rest → Places width points old fields new (Ok place) → HasRead width points new records (number + 1) rest
    places_more old new number all rest fields place read next (row, says, put) =
        read-more old new number fields rest row place (subst (λ (rs : List Record). HasRead width points old records number rs) next read) says put

    wrong-of : (old new : Values) (number : ℕ) (rest : List Record) (fields : Record) (k : RowKind)
        → HasRead width points old records number (fields ∷ rest) → Places width points old fields new (Err k) → HaveWrong width (Contains points) records (number + 1) k
    wrong-of old new number rest fields kind.Fields read unsaid = read-wrong old number fields rest kind.Fields read unsaid
    wrong-of old new number rest fields kind.Number read unsaid = read-wrong old number fields rest kind.Number read unsaid
    wrong-of old new number rest fields kind.Outside read out = read-wrong old number fields rest kind.Outside read out
    wrong-of old new number rest fields kind.Twice read (row, says, (v, place, st)) =
        read-wrong old number fields rest kind.Twice read (row, says, point-of_row read.rows (row.0, v) (read.filled.only (row.0, v) place st))
    wrong-of old new number rest fields (kind.Missing p) read wrong = absurd wrong

    pub places_wrong : (old new : Values) (number : ℕ) (all rest : List Record) (fields : Record) (k : RowKind)
        → HasRead width points old records number all → all ≡ fields ∷ rest → Places width points old fields new (Err k) → HaveWrong width (Contains points) records (number + 1) k
    places_wrong old new number all rest fields k read next places =
        wrong-of old new number rest fields k (subst (λ (rs : List Record). HasRead width points old records number rs) next read) places

    pub all_filled : (values : Values) (number : ℕ) (all : List Record) → HasRead width points values records number all → all ≡ [] → Fills width points records (Ok values)
    all_filled values number all read next =
        let done = subst (λ (rs : List Record). HasRead width points values records number rs) next read in
        (done.rows, read-all values number done, done.filled)

-- fewer records are read than the text has bytes
pub read_few : (width : ℕ) (points : Points) (values : Values) (text : List ℕ) (number : ℕ) (all rest : List Record) (fields : Record)
    → HasRead width points values (records_of text) number all → all ≡ fields ∷ rest → number < length text
read_few width points values text number all rest fields read next =
    let few = few-records text in
    let long = ap (λ (rs : List Record). length rs) read.place ∙ length-append read.before all in
    let more = ap (λ (rs : List Record). length rs) next in
    omega (arith, few, long, more, read.counted)

-- the value of a row that a record says is a word
word-of : (fields : Record) (point : List ℤ) (value : ℤ) → AllZip IsNumber fields (point ++ value ∷ []) → IsWord value
word-of [] [] value all = absurd all
word-of (f ∷ fields) [] value all = all.0.0
word-of [] (c ∷ point) value all = absurd all
word-of (f ∷ fields) (c ∷ point) value all = word-of fields point value all.1

place-row : (width : ℕ) (points : Points) (old new : Values) (fields : Record) (point : List ℤ) (value : ℤ) (result : Result ℕ RowKind)
    → SaysRow width fields (point, value) → Puts points old (point, value) new result → Places width points old fields new result
place-row width points old new fields point value (Ok place) says put = ((point, value), says, put)
place-row width points old new fields point value (Err kind.Fields) says put = absurd put
place-row width points old new fields point value (Err kind.Number) says put = absurd put
place-row width points old new fields point value (Err kind.Outside) says none = ((point, value), says, none)
place-row width points old new fields point value (Err kind.Twice) says st = ((point, value), says, st)
place-row width points old new fields point value (Err (kind.Missing p)) says put = absurd put

-- the row that a record says is put
pub placed : (width : ℕ) (points : Points) (old new : Values) (fields : Record) (point : List ℤ) (value : ℤ) (result : Result ℕ RowKind)
    → SaysRow width fields (point, value) → Puts points old (point, to_z w64 (of_z w64 value)) new result → Places width points old fields new result
placed width points old new fields point value result says put =
    let same = to_z-of_z w64 value (word-of fields point value says.1) in
    place-row width points old new fields point value result says (subst (λ (v : ℤ). Puts points old (point, v) new result) same put)
