-- Points that begin with the parameters, and rows that don't reach the writer's columns.
use Rattle.std.proofs.Common.{◌≡◌, ℕ, zero, suc, ◌≤◌, arith, List, [], ◌∷◌, ◌++◌, length, take, map, All, refl, sym, ap, ap₂, ◌∙◌}
use Rattle.std.specs.Prelude.{ℤ, ◌+ℤ◌}
use Rattle.std.proofs.lemmas.List.Elements.{All-head, All-tail}
use Rattle.az_lin.specs.Affine.{Affine, HasWidth, dot, value_at}
use Rattle.az_lin.proofs.Columns.{dot-take}

pub take_front : {A : Type 0} (n : ℕ) (z xs : List A) → n ≤ length z → take n (take n z ++ xs) ≡ take n z
take_front zero z xs there = refl
take_front (suc n) [] xs there = absurd (omega arith)
take_front (suc n) (x ∷ z) xs there = ap (λ ys. x ∷ ys) (take_front n z xs (omega arith))

short_value : (row : Affine) (width : ℕ) (z : List ℤ) → HasWidth width row → value_at row z ≡ value_at row (take width z)
short_value row width z wide =
    ap (λ (d : ℤ). d +ℤ row.konst) (sym (dot-take row.coefs z) ∙ ap (λ n. dot row.coefs (take n z)) wide)

-- rows over the first columns
pub short_image : (rows : List Affine) (width : ℕ) (z : List ℤ) → All (HasWidth width) rows → map (λ row. value_at row z) rows ≡ map (λ row. value_at row (take width z)) rows
short_image [] width z wide = refl
short_image (row ∷ rows) width z wide =
    ap₂ (λ (x : ℤ) (xs : List ℤ). x ∷ xs) (short_value row width z (All-head (HasWidth width) row rows wide)) (short_image rows width z (All-tail (HasWidth width) row rows wide))
