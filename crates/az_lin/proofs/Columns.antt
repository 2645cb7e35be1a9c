-- What rows over more columns or fewer give at a point.
use Rattle.std.proofs.Common.{◌≡◌, ℕ, zero, suc, ◌+◌, ◌<◌, ◌≤◌, arith, ℤ, pos, ◌+ℤ◌, ◌*ℤ◌, List, [], ◌∷◌, ◌++◌, length, get_or, take, drop, map, set, replicate, ap, refl, sym, ◌∙◌, append-nil, length-drop}
use Rattle.std.proofs.lemmas.Int.{ints}
use Rattle.std.proofs.lemmas.List.{map-append, take_all}
use Rattle.std.proofs.Math.ListN.{drop_of_length-le}
use Rattle.std.proofs.Math.Seq.{drop-cons}
use Rattle.az_lin.specs.Affine.{Affine, AffineMap, dot, value_at, image_of}
use Rattle.az_lin.specs.Columns.{with_zeros, without, widened, widened_map, at_params, map_at_params, unit_row, unit_rows, identity, extended, reading}

pub dot-nil : (cs : List ℤ) → dot cs [] ≡ pos 0
dot-nil [] = refl
dot-nil (c ∷ cs) = refl

drop_of_nil : {A : Type 0} (n : ℕ) → drop n (let none : List A = [] in none) ≡ []
drop_of_nil zero = refl
drop_of_nil (suc n) = refl

-- the product of two lists of coefficients one after the other
pub dot-append : (cs ds z : List ℤ) → dot (cs ++ ds) z ≡ dot cs (take (length cs) z) +ℤ dot ds (drop (length cs) z)
dot-append [] ds z = omega (arith, ints)
dot-append (c ∷ cs) ds [] = omega (arith, ints, dot-nil ds)
dot-append (c ∷ cs) ds (x ∷ z) = omega (arith, ints, dot-append cs ds z)

-- coordinates beyond the coefficients don't count
pub dot-take : (cs z : List ℤ) → dot cs (take (length cs) z) ≡ dot cs z
dot-take [] z = refl
dot-take (c ∷ cs) [] = refl
dot-take (c ∷ cs) (x ∷ z) = ap (λ (s : ℤ). (c *ℤ x) +ℤ s) (dot-take cs z)

-- and coefficients beyond the coordinates don't
pub dot_take_left : (cs z : List ℤ) → dot (take (length z) cs) z ≡ dot cs z
dot_take_left [] [] = refl
dot_take_left [] (x ∷ z) = refl
dot_take_left (c ∷ cs) [] = refl
dot_take_left (c ∷ cs) (x ∷ z) = ap (λ (s : ℤ). (c *ℤ x) +ℤ s) (dot_take_left cs z)

-- two lists of coordinates one after the other
pub dot-after : (cs ps z : List ℤ) → dot cs (ps ++ z) ≡ dot cs ps +ℤ dot (drop (length ps) cs) z
dot-after [] ps z = rw (drop_of_nil {A = ℤ} (length ps)) refl
dot-after (c ∷ cs) [] z = omega (arith, ints)
dot-after (c ∷ cs) (p ∷ ps) z = omega (arith, ints, dot-after cs ps z)

-- zeros before the coefficients
pub dot-padded_front : (count : ℕ) (cs z : List ℤ) → dot (replicate count (pos 0) ++ cs) z ≡ dot cs (drop count z)
dot-padded_front zero cs z = refl
dot-padded_front (suc count) cs [] = sym (dot-nil cs)
dot-padded_front (suc count) cs (x ∷ z) = omega (arith, ints, dot-padded_front count cs z)

dot-zeros : (count : ℕ) (z : List ℤ) → dot (replicate count (pos 0)) z ≡ pos 0
dot-zeros zero z = refl
dot-zeros (suc count) [] = refl
dot-zeros (suc count) (x ∷ z) = omega (arith, ints, dot-zeros count z)

-- zeros after them
pub dot-padded : (cs : List ℤ) (count : ℕ) (z : List ℤ) → dot (cs ++ replicate count (pos 0)) z ≡ dot cs z
dot-padded cs count z = omega (arith, ints, dot-append cs (replicate count (pos 0)) z, dot-take cs z, dot-zeros count (drop (length cs) z))

-- and between them
pub dot-with_zeros : (place count : ℕ) (cs z : List ℤ) → dot (with_zeros place count cs) z ≡ dot cs (without place count z)
dot-with_zeros zero count cs z =
    let none : zero + count ≡ count = omega arith in
    rw none (dot-padded_front count cs z)
dot-with_zeros (suc place) count [] z = dot-padded_front count [] z
dot-with_zeros (suc place) count (c ∷ cs) [] = rw (drop_of_nil {A = ℤ} (suc place + count)) refl
dot-with_zeros (suc place) count (c ∷ cs) (x ∷ z) =
    let next : suc place + count ≡ suc (place + count) = omega arith in
    rw next (ap (λ (s : ℤ). (c *ℤ x) +ℤ s) (dot-with_zeros place count cs z))

pub value_at-widened : (place count : ℕ) (row : Affine) (z : List ℤ) → value_at (widened place count row) z ≡ value_at row (without place count z)
value_at-widened place count row z = ap (λ (s : ℤ). s +ℤ row.konst) (dot-with_zeros place count row.coefs z)

pub values-widened : (place count : ℕ) (rows : List Affine) (z : List ℤ)
    → map (λ row. value_at row z) (map (λ row. widened place count row) rows) ≡ map (λ row. value_at row (without place count z)) rows
values-widened place count [] z = refl
values-widened place count (row ∷ rows) z = cc (value_at-widened place count row z, values-widened place count rows z)

pub image_of-widened : (place count : ℕ) (f : AffineMap) (z : List ℤ) → image_of (widened_map place count f) z ≡ image_of f (without place count z)
image_of-widened place count f z = values-widened place count f.rows z

-- numbers put in for the first columns
pub value_at-at_params : (params : List ℤ) (row : Affine) (z : List ℤ) → value_at (at_params params row) z ≡ value_at row (params ++ z)
value_at-at_params params row z = omega (arith, ints, dot-after row.coefs params z)

values-at_params : (params : List ℤ) (rows : List Affine) (z : List ℤ)
    → map (λ row. value_at row z) (map (λ row. at_params params row) rows) ≡ map (λ row. value_at row (params ++ z)) rows
values-at_params params [] z = refl
values-at_params params (row ∷ rows) z = cc (value_at-at_params params row z, values-at_params params rows z)

pub image_of-at_params : (params : List ℤ) (f : AffineMap) (z : List ℤ) → image_of (map_at_params params f) z ≡ image_of f (params ++ z)
image_of-at_params params f z = values-at_params params f.rows z

-- one coefficient that isn't 0
pub dot_alone : (width column : ℕ) (z : List ℤ) → column < width → dot (set (replicate width (pos 0)) column (pos 1)) z ≡ get_or z column (pos 0)
dot_alone zero column z inside = absurd (omega arith)
dot_alone (suc width) zero [] inside = refl
dot_alone (suc width) zero (x ∷ z) inside = omega (arith, ints, dot-zeros width z)
dot_alone (suc width) (suc column) [] inside = refl
dot_alone (suc width) (suc column) (x ∷ z) inside = omega (arith, ints, dot_alone width column z (omega arith))

pub value_at-unit_row : (width column : ℕ) (z : List ℤ) → column < width → value_at (unit_row width column) z ≡ get_or z column (pos 0)
value_at-unit_row width column z inside = omega (arith, ints, dot_alone width column z inside)

pub values-unit_rows : (width place count : ℕ) (z : List ℤ) → place + count ≤ width → place + count ≤ length z
    → map (λ row. value_at row z) (unit_rows width place count) ≡ take count (drop place z)
values-unit_rows width place zero z inside there = refl
values-unit_rows width place (suc count) z inside there =
    let next : suc place ≡ place + 1 = omega arith in
    let one : value_at (unit_row width place) z ≡ get_or z place (pos 0) = value_at-unit_row width place z (omega arith) in
    let opened : drop place z ≡ get_or z place (pos 0) ∷ drop (place + 1) z = drop-cons z place (pos 0) (omega arith) ∙ ap (λ n. get_or z place (pos 0) ∷ drop n z) next in
    rw opened (cc (one, values-unit_rows width (place + 1) count z (omega arith) (omega arith)))

-- a map that keeps coordinates beside its own
pub image_of-identity : (width : ℕ) (z : List ℤ) → width ≤ length z → image_of (identity width) z ≡ take width z
image_of-identity width z there = values-unit_rows width 0 width z (omega arith) (omega arith)

pub image_of-extended : (count : ℕ) (f : AffineMap) (z : List ℤ) → length z ≡ f.width + count
    → image_of (extended count f) z ≡ image_of f (take f.width z) ++ drop f.width z
image_of-extended count f z long =
    let kept : without f.width count z ≡ take f.width z = ap (λ (xs : List ℤ). take f.width z ++ xs) (drop_of_length-le z (omega arith)) ∙ append-nil (take f.width z) in
    let all : take count (drop f.width z) ≡ drop f.width z = take_all count (drop f.width z) (omega (arith, length-drop f.width z)) in
    map-append (λ row. value_at row z) (map (λ row. widened f.width count row) f.rows) (unit_rows (f.width + count) f.width count)
    ∙ ap (λ (xs : List ℤ). xs ++ image_of (record { width = f.width + count; rows = unit_rows (f.width + count) f.width count }) z)
    (values-widened f.width count f.rows z ∙ ap (λ (p : List ℤ). image_of f p) kept)
    ∙ ap (λ (xs : List ℤ). image_of f (take f.width z) ++ xs) (values-unit_rows (f.width + count) f.width count z (omega arith) (omega arith) ∙ all)

pub image_of-reading : (params : ℕ) (f : AffineMap) (z : List ℤ) → params ≤ f.width → params ≤ length z
    → image_of (reading params f) z ≡ take params z ++ image_of f z
image_of-reading params f z inside there =
    map-append (λ row. value_at row z) (unit_rows f.width 0 params) f.rows
    ∙ ap (λ (xs : List ℤ). xs ++ image_of f z) (values-unit_rows f.width 0 params z (omega arith) (omega arith))
