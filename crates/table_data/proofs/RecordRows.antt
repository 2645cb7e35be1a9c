-- What the fields of a record say, from what each field says.
use Rattle.std.proofs.Common.{◌≡◌, ℕ, zero, suc, ◌+◌, ◌<◌, List, [], ◌∷◌, ◌++◌, length, Ok, Err, Result, Some, refl, sym, subst, arith, ◌∙◌, length-append, inl, inr}
use Rattle.std.specs.Prelude.{ℤ, pos, slice_index_or, slice_set, MatchResult, Any}
use Rattle.std.proofs.lemmas.Bool.{cases_lt, cases_eq}
use Rattle.std.proofs.lemmas.List.{get_or_append_left, get_or_push, get_or_default, get_or-set_same, get_or-set_other}
use Rattle.csv.specs.Records.{field_at}
use Rattle.table_data.specs.Numbers.{IsNumber}
use Rattle.table_data.specs.Records.{Record}
use Rattle.table_data.specs.Inner.Rows.{ReadsRow, SaysNoRow}
use Rattle.table_data.specs.declared.fault.RowKind.{RowKind}
use Rattle.table_data.specs.declared.fault.RowKind.TheVariants as kind
use Rattle.table_data.proofs.Lists.{zip-places}

pub field-at : (fields : Record) (i : ℕ) → i < length fields → field_at fields i ≡ Some (slice_index_or fields i [])
unfolding field_at
field-at [] i h = absurd (omega (arith, h))
field-at (f ∷ fields) zero h = refl
field-at (f ∷ fields) (suc i) h = field-at fields i (omega (arith, h))

-- what the field at a place says
abbrev pub FieldAnswers : Record → ℕ → Result ℤ RowKind → Type 0
FieldAnswers fields place result =
    MatchResult result (IsNumber (slice_index_or fields place [])) (λ k. (k ≡ kind.Number) × ((z : ℤ) → IsNumber (slice_index_or fields place []) z → ⊥))

abbrev pub SayBefore : Record → List ℤ → ℕ → Type 0
SayBefore fields point n = (k : ℕ) → k < n → IsNumber (slice_index_or fields k []) (slice_index_or point k (pos 0))

pub no_number : (width : ℕ) (fields : Record) (place : ℕ) (k : RowKind) → length fields ≡ width + 1 → place < length fields
    → (k ≡ kind.Number) × ((z : ℤ) → IsNumber (slice_index_or fields place []) z → ⊥) → SaysNoRow width fields k
no_number width fields place k long here unsaid =
    let field = slice_index_or fields place [] in
    let found : Any (λ f. (z : ℤ) → IsNumber f z → ⊥) fields = (place, field, here, get_or_default fields place field [] here, unsaid.1) in
    subst (λ (x : RowKind). SaysNoRow width fields x) (sym unsaid.0) (long, found)

-- one number more is read
pub say_more : (fields : Record) (point : List ℤ) (i : ℕ) (v : ℤ) → i < length point → SayBefore fields point i → IsNumber (slice_index_or fields i []) v → SayBefore fields (slice_set point i v) (i + 1)
say_more fields point i v here before number k h =
    elim (cases_eq k i) [
      | inl same ↦
          let put = sym (get_or-set_same point i v (pos 0) here) in
          subst (λ n. IsNumber (slice_index_or fields n []) (slice_index_or (slice_set point i v) n (pos 0))) (sym same)
          (subst (λ (z : ℤ). IsNumber (slice_index_or fields i []) z) put number)
      | inr other ↦
          let kept = sym (get_or-set_other point i k v (pos 0) other) in
          subst (λ (z : ℤ). IsNumber (slice_index_or fields k []) z) kept (before k (omega (arith, h, other)))
    ]

module _ (width : ℕ) (fields : Record) (point : List ℤ) (long : length fields ≡ width + 1) (wide : length point ≡ width) (said : SayBefore fields point (length point)) where
  each : (v : ℤ) → IsNumber (slice_index_or fields (length point) []) v → (k : ℕ) (d : List ℕ) (e : ℤ) → k < length fields
      → IsNumber (slice_index_or fields k d) (slice_index_or (point ++ v ∷ []) k e)
  each v last k d e h =
      let field = get_or_default fields k [] d h in
      elim (cases_lt k (length point)) [
        | inl before ↦
            let number = get_or_default point k (pos 0) e before ∙ sym (get_or_append_left point (v ∷ []) e k before) in
            subst (λ (z : ℤ). IsNumber (slice_index_or fields k d) z) number (subst (λ (f : List ℕ). IsNumber f (slice_index_or point k (pos 0))) field (said k before))
        | inr after ↦
            let at : length point ≡ k = omega (arith, after, h, long, wide) in
            let number = sym (get_or_push point v e k at) in
            subst (λ (z : ℤ). IsNumber (slice_index_or fields k d) z) number
            (subst (λ (f : List ℕ). IsNumber f v) field (subst (λ n. IsNumber (slice_index_or fields n []) v) at last))
      ]

  pub row_read : (result : Result ℤ RowKind) → FieldAnswers fields (length point) result → ReadsRow width fields point result
  row_read (Ok v) last =
      (wide, zip-places IsNumber fields (point ++ v ∷ []) (let l = length-append point (v ∷ []) in omega (arith, l, long, wide)) (each v last))
  row_read (Err k) unsaid = no_number width fields (length point) k long (omega (arith, long, wide)) unsaid
