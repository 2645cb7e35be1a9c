-- What the made rows are, and that they have the width and entries in range.
use Rattle.std.proofs.Common.{◌≡◌, ℕ, ◌+◌, ◌-◌, ◌≤◌, arith, refl, sym, subst, ap, ◌∙◌, List, [], ◌∷◌, ◌++◌, length, take, drop, map, replicate, All, ℤ, pos, append_assoc, length-append, length-drop, length-set}
use Rattle.std.proofs.lemmas.List.{length-take-le, length-replicate}
use Rattle.std.proofs.lemmas.List.Elements.{All-nil, All-cons, All-head, All-tail, All-append, All-take, All-drop, All-replicate, All-map}
use Rattle.az_lin.specs.Affine.{Affine, Polyhedron, IsEntry, HasEntries, HasWidth, IsOver}
use Rattle.az_lin.specs.Columns.{with_zeros, widened, widened_conj, at_params, conj_at_params, unit_row, unit_rows}
use Rattle.std.specs.List.{range_with_len}
use Rattle.std.proofs.lemmas.List.FromFn.{map-range_with_len_more}
use Rattle.az_lin.proofs.Substitution.{row_is}

-- what all made items have that the given ones lead to
All-mapped : {A B : Type 0} (P : A → Type 0) (Q : B → Type 0) (f : A → B) (xs : List A) → ((x : A) → P x → Q (f x)) → All P xs → All Q (map f xs)
All-mapped P Q f [] each all = All-nil Q
All-mapped P Q f (x ∷ xs) each all = All-cons Q (f x) (map f xs) (each x (All-head P x xs all)) (All-mapped P Q f xs each (All-tail P x xs all))

length-with_zeros : (place count : ℕ) (cs : List ℤ) → place ≤ length cs → length (with_zeros place count cs) ≡ length cs + count
length-with_zeros place count cs inside =
    let front : length (take place cs) ≡ place = length-take-le place cs inside in
    let zeros : length (replicate count (pos 0)) ≡ count = length-replicate count (pos 0) in
    omega (arith, length-append (take place cs) (replicate count (pos 0) ++ drop place cs), length-append (replicate count (pos 0)) (drop place cs), length-drop place cs, front, zeros)

pub widths_widened : (place count width : ℕ) (rows : List Affine) → place ≤ width → All (HasWidth width) rows
    → All (HasWidth (width + count)) (map (λ row. widened place count row) rows)
widths_widened place count width rows inside wide =
    All-mapped (HasWidth width) (HasWidth (width + count)) (λ row. widened place count row) rows
    (λ row is. length-with_zeros place count row.coefs (subst (λ n. place ≤ n) (sym is) inside) ∙ ap (λ n. n + count) is) wide

entries_widened : (place count : ℕ) (row : Affine) → HasEntries row → HasEntries (widened place count row)
entries_widened place count row entries = record {
  coefficients = All-append IsEntry (take place row.coefs) (replicate count (pos 0) ++ drop place row.coefs) (All-take IsEntry place row.coefs entries.coefficients)
      (All-append IsEntry (replicate count (pos 0)) (drop place row.coefs) (All-replicate IsEntry count (pos 0) (omega arith)) (All-drop IsEntry place row.coefs entries.coefficients));
  constant = entries.constant;
}

pub entries_made : (place count : ℕ) (row : Affine) (coefs : List ℤ) (konst : ℤ) → coefs ≡ with_zeros place count row.coefs → konst ≡ row.konst → HasEntries row
    → HasEntries (record { coefs = coefs; konst = konst })
entries_made place count row coefs konst same same' entries = subst HasEntries (sym (row_is (widened place count row) coefs konst same same')) (entries_widened place count row entries)

pub widths_at_params : (params : List ℤ) (width : ℕ) (rows : List Affine) → All (HasWidth width) rows
    → All (HasWidth (width - length params)) (map (λ row. at_params params row) rows)
widths_at_params params width rows wide =
    All-mapped (HasWidth width) (HasWidth (width - length params)) (λ row. at_params params row) rows
    (λ row is. length-drop (length params) row.coefs ∙ ap (λ n. n - length params) is) wide

-- each made conjunction is over the made width
pub over_at_params : (params : List ℤ) (width : ℕ) (conjs : List Polyhedron) → All (IsOver width) conjs
    → All (IsOver (width - length params)) (map (λ conj. conj_at_params params conj) conjs)
over_at_params params width conjs over =
    All-mapped (IsOver width) (IsOver (width - length params)) (λ conj. conj_at_params params conj) conjs (λ conj is. ap (λ n. n - length params) is) over

pub over_widened : (place count width : ℕ) (conjs : List Polyhedron) → All (IsOver width) conjs
    → All (IsOver (width + count)) (map (λ conj. widened_conj place count conj) conjs)
over_widened place count width conjs over =
    All-mapped (IsOver width) (IsOver (width + count)) (λ conj. widened_conj place count conj) conjs (λ conj is. ap (λ n. n + count) is) over

pub widths_unit_rows : (width place count : ℕ) → All (HasWidth width) (unit_rows width place count)
widths_unit_rows width place count =
    All-map (HasWidth width) (λ column. unit_row width column) (range_with_len place count) (λ k d h. simp (length-set, length-replicate))

-- one row of a column more
pub unit_rows-more : (width place count : ℕ) (old done next : List Affine) (row : Affine) → done ≡ old ++ unit_rows width place count → row ≡ unit_row width (place + count)
    → next ≡ done ++ row ∷ [] → next ≡ old ++ unit_rows width place (count + 1)
unit_rows-more width place count old done next row before is pushed =
    pushed
    ∙ ap (λ (rows : List Affine). rows ++ row ∷ []) before
    ∙ append_assoc old (unit_rows width place count) (row ∷ [])
    ∙ ap (λ (r : Affine). old ++ (unit_rows width place count ++ r ∷ [])) is
    ∙ ap (λ (rows : List Affine). old ++ rows) (sym (map-range_with_len_more (λ column. unit_row width column) place count (place + count) refl))
