-- The rows of an inverse map, made one after the other.
use Rattle.std.proofs.Common.{◌≡◌, ℕ, zero, suc, ◌+◌, ◌-◌, ◌*◌, ◌≤◌, arith, sym, subst, ap, ap₂, ◌∙◌, append_assoc, List, [], ◌∷◌, ◌++◌, length, take, drop, map, All, ℤ}
use Rattle.std.proofs.lemmas.List.{length-drop, length-append, length-take-le}
use Rattle.std.proofs.lemmas.List.FromFn.{length-map-range_with_len}
use Rattle.std.proofs.lemmas.List.Elements.{All-head, All-nil, All-cons}
use Rattle.std.specs.List.{range_with_len}
use Rattle.az_lin.specs.Affine.{Affine, HasWidth, dot}
use Rattle.az_lin.specs.Substitution.{column}
use Rattle.az_lin.specs.Inversion.{inverse_row, inverse_rows}
use Rattle.az_lin.proofs.Fractions.{All-back}
use lib.IntN.{neg_ℤ}

-- one row more: what the next numbers make, and what is left
pub inverse_split : (params left : ℕ) (rows counted : List Affine) (rest own : List ℤ) → counted ≡ rows → own ≡ take (length counted) rest
    → inverse_rows params rows (suc left) rest ≡ inverse_row params rows own ∷ inverse_rows params rows left (drop (length counted) rest)
inverse_split params left rows counted rest own same is =
    ap (λ (n : ℕ). inverse_row params rows (take n rest) ∷ inverse_rows params rows left (drop n rest)) (sym (ap length same))
    ∙ ap (λ (numbers : List ℤ). inverse_row params rows numbers ∷ inverse_rows params rows left (drop (length counted) rest)) (sym is)

pub enough : (left m n : ℕ) → n ≡ suc left * m → m ≤ n
enough left m n h = omega (arith, h)

pub fewer : (left m n : ℕ) → n ≡ suc left * m → n - m ≡ left * m
fewer left m n h = omega (arith, h)

pub inverse_next : (params left : ℕ) (rows counted made more whole : List Affine) (rest own back : List ℤ) (got : Affine) → counted ≡ rows → own ≡ take (length counted) rest
    → back ≡ drop (length counted) rest → made ++ inverse_rows params rows (suc left) rest ≡ whole → more ≡ made ++ got ∷ [] → got ≡ inverse_row params rows own
    → more ++ inverse_rows params rows left back ≡ whole
inverse_next params left rows counted made more whole rest own back got same front behind before pushed is =
    let after = inverse_rows params rows left back in
    let split : inverse_rows params rows (suc left) rest ≡ got ∷ after =
    inverse_split params left rows counted rest own same front
    ∙ ap₂ (λ (r : Affine) (numbers : List ℤ). r ∷ inverse_rows params rows left numbers) (sym is) (sym behind) in
    ap (λ (xs : List Affine). xs ++ after) pushed ∙ append_assoc made (got ∷ []) after ∙ ap (λ (xs : List Affine). made ++ xs) (sym split) ∙ before

pub row_in_whole : (P : Affine → Type 0) (params left : ℕ) (rows counted made whole : List Affine) (rest own : List ℤ) → counted ≡ rows → own ≡ take (length counted) rest
    → made ++ inverse_rows params rows (suc left) rest ≡ whole → All P whole → P (inverse_row params rows own)
row_in_whole P params left rows counted made whole rest own same front before all =
    let split = inverse_split params left rows counted rest own same front in
    let here : All P (made ++ (inverse_row params rows own ∷ inverse_rows params rows left (drop (length counted) rest))) =
    subst (All P) (sym before ∙ ap (λ (xs : List Affine). made ++ xs) split) all in
    All-head P (inverse_row params rows own) (inverse_rows params rows left (drop (length counted) rest))
    (All-back P made (inverse_row params rows own ∷ inverse_rows params rows left (drop (length counted) rest)) here)

-- each has the width of the map
pub inverse_widths : (params k width : ℕ) (rows : List Affine) (numbers : List ℤ) → width ≡ params + length rows → length numbers ≡ k * length rows
    → All (HasWidth width) (inverse_rows params rows k numbers)
inverse_widths params zero width rows numbers square h = All-nil (HasWidth width)
inverse_widths params (suc k) width rows numbers square h =
    let n = length rows in
    let own = take n numbers in
    let front = map (λ j. neg_ℤ (dot own (column j rows))) (range_with_len 0 params) in
    let big : n ≤ length numbers = enough k n (length numbers) h in
    let mine : length own ≡ n = length-take-le n numbers big in
    let wide : length (front ++ own) ≡ width = length-append front own ∙ omega (arith, length-map-range_with_len (λ j. neg_ℤ (dot own (column j rows))) 0 params, mine, square) in
    All-cons (HasWidth width) (inverse_row params rows own) (inverse_rows params rows k (drop n numbers)) wide
    (inverse_widths params k width rows (drop n numbers) square (length-drop n numbers ∙ fewer k n (length numbers) h))
