-- The differences of two lists, column by column.
use Rattle.std.proofs.Common.{◌≡◌, ℕ, zero, suc, arith, refl, sym, ◌∙◌, List, [], ◌∷◌, length, map, max, get_or, ℤ, pos, ◌-ℤ◌}
use lib.IntN.{neg_ℤ}
use Rattle.std.specs.List.{range_with_len}
use Rattle.std.proofs.lemmas.Int.{ints}
use Rattle.std.proofs.lemmas.List.{length-map}
use Rattle.std.proofs.lemmas.List.FromFn.{fill_by_all}
use Rattle.az_lin.specs.Difference.{differences}

length-differences : (xs ys : List ℤ) → length (differences xs ys) ≡ max (length xs) (length ys)
length-differences [] ys = length-map ys neg_ℤ ∙ omega arith
length-differences (x ∷ xs) [] = omega arith
length-differences (x ∷ xs) (y ∷ ys) = omega (arith, length-differences xs ys)

get_or-negated : (ys : List ℤ) (k : ℕ) → get_or (map neg_ℤ ys) k (pos 0) ≡ pos 0 -ℤ get_or ys k (pos 0)
get_or-negated [] k = refl
get_or-negated (y ∷ ys) zero = omega (arith, ints)
get_or-negated (y ∷ ys) (suc k) = get_or-negated ys k

get_or-differences : (xs ys : List ℤ) (k : ℕ) → get_or (differences xs ys) k (pos 0) ≡ get_or xs k (pos 0) -ℤ get_or ys k (pos 0)
get_or-differences [] ys k = get_or-negated ys k
get_or-differences (x ∷ xs) [] zero = omega (arith, ints)
get_or-differences (x ∷ xs) [] (suc k) = omega (arith, ints)
get_or-differences (x ∷ xs) (y ∷ ys) zero = refl
get_or-differences (x ∷ xs) (y ∷ ys) (suc k) = get_or-differences xs ys k

pub columns-differences : (xs ys : List ℤ) (width : ℕ) → width ≡ max (length xs) (length ys)
    → map (λ column. get_or xs column (pos 0) -ℤ get_or ys column (pos 0)) (range_with_len 0 width) ≡ differences xs ys
columns-differences xs ys width wide =
    sym (fill_by_all (λ column. get_or xs column (pos 0) -ℤ get_or ys column (pos 0)) (differences xs ys) width (pos 0) (length-differences xs ys ∙ sym wide)
    (λ k h. get_or-differences xs ys k))
