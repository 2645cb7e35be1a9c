-- The rows of a table that is put together from points and their values.
use Rattle.std.proofs.Common.{◌≡◌, ℕ, zero, suc, ◌<◌, ◌≤◌, List, [], ◌∷◌, ◌++◌, length, take, Some, None, map, refl, sym, ap, arith, ◌∙◌, append-nil, length-append}
use Rattle.std.specs.Prelude.{ℤ, pos, slice_get, slice_index_or}
use Rattle.std.specs.Option.{option_map}
use Rattle.std.proofs.lemmas.List.{length-map, take_all, nil_from_length}
use Rattle.std.proofs.lemmas.Option.{slice_get-map, slice_get-get_or}
use Rattle.az_ast.specs.Tables.{Rows}
use Rattle.table_data.specs.TableOf.{points_of}
use Rattle.table_data.specs.Inner.Filling.{Points, Values}
use Rattle.table_data.specs.Inner.Answers.{IsFirstFree}

abbrev given : Rows → Values
given rows = map (λ row. Some row.1) rows

get-after : {A : Type 0} (xs : List A) (y : A) (ys : List A) (i : ℕ) → length xs ≡ i → slice_get (xs ++ y ∷ ys) i ≡ Some y
get-after [] y ys zero e = refl
get-after [] y ys (suc i) e = absurd (omega (arith, e))
get-after (x ∷ xs) y ys zero e = absurd (omega (arith, e))
get-after (x ∷ xs) y ys (suc i) e = get-after xs y ys i (omega (arith, e))

get-take : {A : Type 0} (n : ℕ) (xs : List A) (k : ℕ) (x : A) → slice_get (take n xs) k ≡ Some x → slice_get xs k ≡ Some x
get-take zero xs k x e = cc e
get-take (suc n) [] k x e = cc e
get-take (suc n) (y ∷ xs) zero x e = e
get-take (suc n) (y ∷ xs) (suc k) x e = get-take n xs k x e

-- the place behind the rows has no value
pub first_free : (points : Points) (values : Values) (rows : Rows) (rest : Points) (point : List ℤ) (i : ℕ) → points ≡ points_of rows ++ point ∷ rest
    → map (λ row. Some row.1) rows ≡ take i values → length rows ≡ i → slice_get values i ≡ Some None → (place : ℕ) × IsFirstFree points values point place
first_free points values rows rest point i own same count free = (
  i,
  record {
    here = ap (λ (ps : Points). slice_get ps i) own ∙ get-after (points_of rows) point rest i (length-map rows (λ (row : List ℤ × ℤ). row.0) ∙ count);
    free = free;
    before = λ k h.
        let here : k < length rows = omega (arith, h, count) in
        let row = slice_index_or rows k (point, pos 0) in
        let at : slice_get (given rows) k ≡ Some (Some row.1) = slice_get-map (λ (r : List ℤ × ℤ). Some r.1) rows k ∙ ap (option_map (λ (r : List ℤ × ℤ). Some r.1)) (slice_get-get_or rows k (point, pos 0) here) in
        (row.1, get-take i values k (Some row.1) (sym (ap (λ (vs : Values). slice_get vs k) same) ∙ at));
  },
)

-- each point has a row
pub whole : (points : Points) (values : Values) (rows : Rows) (rest : Points) (i : ℕ) → points ≡ points_of rows ++ rest
    → map (λ row. Some row.1) rows ≡ take i values → length rows ≡ i → length values ≤ i → length values ≡ length points → (points_of rows ≡ points) × (map (λ row. Some row.1) rows ≡ values)
whole points values rows rest i own same count last aligned =
    let long = ap (λ (ps : Points). length ps) own ∙ length-append (points_of rows) rest in
    let wide = length-map rows (λ (row : List ℤ × ℤ). row.0) in
    let none = nil_from_length rest (omega (arith, long, wide, count, last, aligned)) in
    (sym (own ∙ ap (λ (ps : Points). points_of rows ++ ps) none ∙ append-nil (points_of rows)), same ∙ take_all i values last)
