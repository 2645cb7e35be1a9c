-- What shifting and composing do to the value of a row.
use Rattle.std.proofs.Common.{◌≡◌, ℕ, ◌*◌, arith, ℤ, pos, ◌+ℤ◌, ◌*ℤ◌, ◌-ℤ◌, List, [], ◌∷◌, length, get_or, map, All, ap, refl, sym, ◌∙◌}
use Rattle.std.specs.List.{range_with_len}
use Rattle.std.proofs.lemmas.Int.{ints}
use borrow.Author.Differences.{up, down, neg_is}
use lib.IntN.{neg_ℤ}
use Rattle.std.proofs.lemmas.List.FromFn.{fill_by_all, length-map-range_with_len}
use Rattle.std.proofs.lemmas.List.Elements.{All-head, All-tail, All-map}
use Rattle.az_lin.proofs.Integers.{mul-add_int, add-mul_int, mul_assoc_int}
use Rattle.az_lin.specs.Affine.{Affine, AffineMap, HasWidth, dot, value_at, image_of}
use Rattle.az_lin.specs.Substitution.{less, shifted, column, constants, composed, composed_map}

mul_neg : (c v : ℤ) → c *ℤ neg_ℤ v ≡ neg_ℤ (c *ℤ v)
mul_neg c v =
    omega (arith, ints, ap (λ n. up c * n) (neg_is v).0, ap (λ n. down c * n) (neg_is v).0, ap (λ n. up c * n) (neg_is v).1, ap (λ n. down c * n) (neg_is v).1)

mul_less : (c x v : ℤ) → c *ℤ (x -ℤ v) ≡ (c *ℤ x) -ℤ (c *ℤ v)
mul_less c x v = omega (arith, ints, mul-add_int c x (neg_ℤ v), mul_neg c v)

pub dot-less : (cs zs vs : List ℤ) → length zs ≡ length vs → dot cs (less zs vs) ≡ dot cs zs -ℤ dot cs vs
dot-less [] zs vs same = refl
dot-less (c ∷ cs) [] [] same = refl
dot-less (c ∷ cs) [] (v ∷ vs) same = absurd (omega arith)
dot-less (c ∷ cs) (z ∷ zs) [] same = absurd (omega arith)
dot-less (c ∷ cs) (z ∷ zs) (v ∷ vs) same = omega (arith, ints, mul_less c z v, dot-less cs zs vs (omega arith))

pub value_at-shifted : (row : Affine) (z v : List ℤ) → length z ≡ length v → value_at (shifted row v) z ≡ value_at row (less z v)
value_at-shifted row z v same = omega (arith, ints, dot-less row.coefs z v same)

pub dot-zeros : (js : List ℕ) (z : List ℤ) → dot (map (λ j. pos 0) js) z ≡ pos 0
dot-zeros [] z = refl
dot-zeros (j ∷ js) [] = refl
dot-zeros (j ∷ js) (x ∷ z) = omega (arith, ints, dot-zeros js z)

-- the product of a sum of multiples is the sum of the multiples of products
pub dot-linear : (c : ℤ) (g h : ℕ → ℤ) (js : List ℕ) (z : List ℤ)
    → dot (map (λ j. (c *ℤ g j) +ℤ h j) js) z ≡ (c *ℤ dot (map g js) z) +ℤ dot (map h js) z
dot-linear c g h [] z = omega (arith, ints)
dot-linear c g h (j ∷ js) [] = omega (arith, ints)
dot-linear c g h (j ∷ js) (x ∷ z) =
    omega (arith, ints, dot-linear c g h js z, mul-add_int c (g j *ℤ x) (dot (map g js) z), add-mul_int (c *ℤ g j) (h j) x, mul_assoc_int c (g j) x)

-- a row's coefficients, column by column
coefs-columns : (row : Affine) (width : ℕ) → HasWidth width row → map (λ j. get_or row.coefs j (pos 0)) (range_with_len 0 width) ≡ row.coefs
coefs-columns row width wide = sym (fill_by_all (λ j. get_or row.coefs j (pos 0)) row.coefs width (pos 0) wide (λ k h. refl))

dot-composed : (cs : List ℤ) (rows : List Affine) (width : ℕ) (z : List ℤ) → All (HasWidth width) rows
    → dot (map (λ j. dot cs (column j rows)) (range_with_len 0 width)) z +ℤ dot cs (constants rows) ≡ dot cs (map (λ row. value_at row z) rows)
dot-composed [] rows width z wide = rw (dot-zeros (range_with_len 0 width) z) refl
dot-composed (c ∷ cs) [] width z wide = rw (dot-zeros (range_with_len 0 width) z) refl
dot-composed (c ∷ cs) (row ∷ rows) width z wide =
    omega (
      arith,
      ints,
      dot-linear c (λ j. get_or row.coefs j (pos 0)) (λ j. dot cs (column j rows)) (range_with_len 0 width) z,
      ap (λ coefs. c *ℤ dot coefs z) (coefs-columns row width (All-head (HasWidth width) row rows wide)),
      mul-add_int c (dot row.coefs z) row.konst,
      dot-composed cs rows width z (All-tail (HasWidth width) row rows wide),
    )

pub value_at-composed : (row : Affine) (f : AffineMap) (z : List ℤ) → All (HasWidth f.width) f.rows → value_at (composed row f) z ≡ value_at row (image_of f z)
value_at-composed row f z wide = omega (arith, ints, dot-composed row.coefs f.rows f.width z wide)

pub map_is : (f : AffineMap) (width : ℕ) (rows : List Affine) → width ≡ f.width → rows ≡ f.rows → record { width = width; rows = rows } ≡ f
map_is f width rows same same' =
    let with_width : ℕ → AffineMap = λ n. record { width = n; rows = rows } in
    let with_rows : List Affine → AffineMap = λ rs. record { width = f.width; rows = rs } in
    ap with_width same ∙ ap with_rows same'

images : (rows : List Affine) (f : AffineMap) (z : List ℤ) → All (HasWidth f.width) f.rows
    → map (λ row. value_at row z) (map (λ row. composed row f) rows) ≡ map (λ row. value_at row (image_of f z)) rows
images [] f z wide = refl
images (row ∷ rows) f z wide = rw (images rows f z wide) (ap (λ x. x ∷ map (λ r. value_at r (image_of f z)) rows) (value_at-composed row f z wide))

pub row_is : (row : Affine) (coefs : List ℤ) (konst : ℤ) → coefs ≡ row.coefs → konst ≡ row.konst → record { coefs = coefs; konst = konst } ≡ row
row_is row coefs konst same same' =
    let with_coefs : List ℤ → Affine = λ xs. record { coefs = xs; konst = konst } in
    let with_konst : ℤ → Affine = λ k. record { coefs = row.coefs; konst = k } in
    ap with_coefs same ∙ ap with_konst same'

pub image_of-composed : (g f : AffineMap) (z : List ℤ) → All (HasWidth f.width) f.rows → image_of (composed_map g f) z ≡ image_of g (image_of f z)
image_of-composed g f z wide = images g.rows f z wide

pub widths_composed : (rows : List Affine) (f : AffineMap) → All (HasWidth f.width) (map (λ row. composed row f) rows)
widths_composed rows f = All-map (HasWidth f.width) (λ row. composed row f) rows
    (λ k d h. length-map-range_with_len (λ j. dot (get_or rows k d).coefs (column j f.rows)) 0 f.width)
