-- What a step does at a point: a sum of rows has the sum of their values, and a row that is divided stays at least 0
-- at whole numbers.
use Rattle.std.proofs.Common.{◌≡◌, ◌∙◌, sym, ap, arith, List, [], ◌∷◌, length, map, ℤ, pos, unsigned_abs, ◌+ℤ◌, ◌*ℤ◌, ◌≤ℤ◌, ◌<ℤ◌}
use Rattle.std.proofs.lemmas.Int.{ints}
use Rattle.std.proofs.lemmas.List.Elements.{All-head, All-tail}
use Rattle.std.specs.Int.{int_div_euclid}
use Rattle.az_lin.specs.Affine.{Affine, dot, value_at}
use Rattle.az_lin.specs.CommonDivisor.{DividesEach}
use Rattle.az_lin.specs.Combination.{scaled_sum, scaled_sums, combination, quotient}
use Rattle.az_lin.proofs.Integers.{mul-add_int, mul_assoc_int, mul-nonneg_int, floor_high, floor_exact, lt_of_mul_left_int, add-mul_int}
use Prim.Native.Nat.{◌∣◌}

-- (a x + b y) z, and the sums of such
product_of_sum : (a x b y z : ℤ) → scaled_sum a x b y *ℤ z ≡ scaled_sum a (x *ℤ z) b (y *ℤ z)
product_of_sum a x b y z = omega (arith, ints, add-mul_int (a *ℤ x) (b *ℤ y) z, mul_assoc_int a x z, mul_assoc_int b y z)

sum_of_sums : (a p q b r s : ℤ) → scaled_sum a p b r +ℤ scaled_sum a q b s ≡ scaled_sum a (p +ℤ q) b (r +ℤ s)
sum_of_sums a p q b r s = omega (arith, ints, mul-add_int a p q, mul-add_int b r s)

zero_sum : (a b : ℤ) → pos 0 ≡ scaled_sum a (pos 0) b (pos 0)
zero_sum a b = omega (arith, ints)

pub dot-scaled_sums : (a : ℤ) (xs : List ℤ) (b : ℤ) (ys z : List ℤ) → length xs ≡ length ys
    → dot (scaled_sums a xs b ys) z ≡ scaled_sum a (dot xs z) b (dot ys z)
dot-scaled_sums a [] b [] z e = zero_sum a b
dot-scaled_sums a [] b (y ∷ ys) z e = absurd (omega arith)
dot-scaled_sums a (x ∷ xs) b [] z e = absurd (omega arith)
dot-scaled_sums a (x ∷ xs) b (y ∷ ys) [] e = zero_sum a b
dot-scaled_sums a (x ∷ xs) b (y ∷ ys) (z ∷ zs) e =
    ap (λ (n : ℤ). n +ℤ dot (scaled_sums a xs b ys) zs) (product_of_sum a x b y z)
    ∙ ap (λ (n : ℤ). scaled_sum a (x *ℤ z) b (y *ℤ z) +ℤ n) (dot-scaled_sums a xs b ys zs (omega arith))
    ∙ sum_of_sums a (x *ℤ z) (dot xs zs) b (y *ℤ z) (dot ys zs)

pub value_at-combination : (a : ℤ) (left : Affine) (b : ℤ) (right : Affine) (z : List ℤ) → length left.coefs ≡ length right.coefs
    → value_at (combination a left b right) z ≡ scaled_sum a (value_at left z) b (value_at right z)
value_at-combination a left b right z e =
    ap (λ (n : ℤ). n +ℤ scaled_sum a left.konst b right.konst) (dot-scaled_sums a left.coefs b right.coefs z e)
    ∙ sum_of_sums a (dot left.coefs z) left.konst b (dot right.coefs z) right.konst

-- the sum of two rows that are at least 0, with factors that are
pub scaled_sum-nonneg : (a x b y : ℤ) → pos 0 ≤ℤ a → pos 0 ≤ℤ x → pos 0 ≤ℤ b → pos 0 ≤ℤ y → pos 0 ≤ℤ scaled_sum a x b y
scaled_sum-nonneg a x b y p q r s =
    let left : pos 0 ≤ℤ (a *ℤ x) = mul-nonneg_int a x p q in
    let right : pos 0 ≤ℤ (b *ℤ y) = mul-nonneg_int b y r s in
    omega (arith, ints)

-- coefficients that a number divides are the number times their quotients
pub dot-quotient : (coefs : List ℤ) (d : ℤ) (z : List ℤ) → pos 0 <ℤ d → DividesEach (unsigned_abs d) coefs
    → d *ℤ dot (map (λ coef. int_div_euclid coef d) coefs) z ≡ dot coefs z
dot-quotient [] d z positive h = omega (arith, ints)
dot-quotient (x ∷ xs) d [] positive h = omega (arith, ints)
dot-quotient (x ∷ xs) d (z ∷ zs) positive h =
    let rest = map (λ (coef : ℤ). int_div_euclid coef d) xs in
    let q = int_div_euclid x d in
    let exact : d *ℤ q ≡ x = floor_exact x d positive (All-head (λ y. unsigned_abs d ∣ unsigned_abs y) x xs h) in
    mul-add_int d (q *ℤ z) (dot rest zs)
    ∙ ap (λ (n : ℤ). n +ℤ (d *ℤ dot rest zs)) (sym (mul_assoc_int d q z) ∙ ap (λ (n : ℤ). n *ℤ z) exact)
    ∙ ap (λ (n : ℤ). (x *ℤ z) +ℤ n) (dot-quotient xs d zs positive (All-tail (λ y. unsigned_abs d ∣ unsigned_abs y) x xs h))

-- a multiple of d plus a number is at least 0 only if the multiple plus the rounded quotient is
floor_keeps_nonneg : (d n k : ℤ) → pos 0 <ℤ d → pos 0 ≤ℤ ((d *ℤ n) +ℤ k) → pos 0 ≤ℤ (n +ℤ int_div_euclid k d)
floor_keeps_nonneg d n k positive h =
    let q = int_div_euclid k d in
    let above : k <ℤ ((d *ℤ q) +ℤ d) = floor_high k d positive in
    let spread : d *ℤ ((n +ℤ q) +ℤ pos 1) ≡ ((d *ℤ n) +ℤ (d *ℤ q)) +ℤ d = omega (arith, ints, mul-add_int d (n +ℤ q) (pos 1), mul-add_int d n q) in
    let more : (d *ℤ pos 0) <ℤ (d *ℤ ((n +ℤ q) +ℤ pos 1)) = omega (arith, ints, spread, above, h) in
    let next : pos 0 <ℤ ((n +ℤ q) +ℤ pos 1) = lt_of_mul_left_int d (pos 0) ((n +ℤ q) +ℤ pos 1) positive more in
    omega (arith, ints)

pub quotient-nonneg : (row : Affine) (d : ℤ) (z : List ℤ) → pos 0 <ℤ d → DividesEach (unsigned_abs d) row.coefs
    → pos 0 ≤ℤ value_at row z → pos 0 ≤ℤ value_at (quotient row d) z
quotient-nonneg row d z positive divides h =
    let same : d *ℤ dot (quotient row d).coefs z ≡ dot row.coefs z = dot-quotient row.coefs d z positive divides in
    floor_keeps_nonneg d (dot (quotient row d).coefs z) row.konst positive (rw same h)
