-- The difference of two rows less a number, where the shorter row has zeros for the columns that it lacks.
use Rattle.std.specs.Prelude.{List, [], ◌∷◌, map, ℤ, ◌-ℤ◌, neg_ℤ}
use Rattle.az_lin.specs.Affine.{Affine}

abbrev pub differences : List ℤ → List ℤ → List ℤ
differences [] ys = map neg_ℤ ys
differences (x ∷ xs) [] = x ∷ xs
differences (x ∷ xs) (y ∷ ys) = (x -ℤ y) ∷ differences xs ys

-- at least 0 where the first row's value is greater by at least the number
abbrev pub apart_by : ℤ → Affine → Affine → Affine
apart_by less left right = record { coefs = differences left.coefs right.coefs; konst = (left.konst -ℤ right.konst) -ℤ less }
