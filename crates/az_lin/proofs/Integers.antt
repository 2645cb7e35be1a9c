-- Laws of whole numbers that std does not have: products over sums, their order, and the quotient that rounds down.
-- `omega` reads a whole number as the difference of two naturals, `up` and `down`, and multiplies naturals out.
use Rattle.std.proofs.Common.{◌≡◌, ℕ, ◌*◌, ◌<◌, ◌≤◌, ap, arith, unsigned_abs, ℤ, pos, negsuc, ◌+ℤ◌, ◌-ℤ◌, ◌*ℤ◌, ◌≤ℤ◌, ◌<ℤ◌, sym, ◌∙◌, mul-le-mul_left, mul-pos}
use Rattle.std.proofs.lemmas.Int.{ints, by_lt_z}
use Rattle.std.proofs.lemmas.Nat.{div_below}
use Rattle.std.proofs.lemmas.Nat.Gcd.{mod-eq-zero_of_dvd}
use Rattle.std.specs.Int.{int_div_euclid}
use Prim.Native.Nat.{◌∣◌, ◌/◌, suc}
use borrow.Author.Differences.{up, down, product_is, sum_is_lem}

pub mul_comm_int : (a b : ℤ) → a *ℤ b ≡ b *ℤ a
mul_comm_int a b = omega (arith, ints)

pub mul-add_int : (a b c : ℤ) → a *ℤ (b +ℤ c) ≡ (a *ℤ b) +ℤ (a *ℤ c)
mul-add_int a b c =
    omega (arith, ints, ap (λ (n : ℕ). up a * n) (sum_is_lem b c), ap (λ (n : ℕ). down a * n) (sum_is_lem b c))

pub add-mul_int : (a b c : ℤ) → (a +ℤ b) *ℤ c ≡ (a *ℤ c) +ℤ (b *ℤ c)
add-mul_int a b c =
    omega (arith, ints, ap (λ (n : ℕ). n * up c) (sum_is_lem a b), ap (λ (n : ℕ). n * down c) (sum_is_lem a b))

pub mul_assoc_int : (a b c : ℤ) → (a *ℤ b) *ℤ c ≡ a *ℤ (b *ℤ c)
mul_assoc_int a b c =
    omega (
      arith,
      ints,
      ap (λ (n : ℕ). n * up c) (product_is a b).0,
      ap (λ (n : ℕ). n * down c) (product_is a b).0,
      ap (λ (n : ℕ). n * up c) (product_is a b).1,
      ap (λ (n : ℕ). n * down c) (product_is a b).1,
      ap (λ (n : ℕ). up a * n) (product_is b c).0,
      ap (λ (n : ℕ). down a * n) (product_is b c).0,
      ap (λ (n : ℕ). up a * n) (product_is b c).1,
      ap (λ (n : ℕ). down a * n) (product_is b c).1,
    )

pub mul_left_comm_int : (a b c : ℤ) → a *ℤ (b *ℤ c) ≡ b *ℤ (a *ℤ c)
mul_left_comm_int a b c = sym (mul_assoc_int a b c) ∙ ap (λ (z : ℤ). z *ℤ c) (mul_comm_int a b) ∙ mul_assoc_int b a c

pub add_assoc_int : (a b c : ℤ) → (a +ℤ b) +ℤ c ≡ a +ℤ (b +ℤ c)
add_assoc_int a b c = omega (arith, ints)

-- the order of products
pub mul-nonneg_int : (a b : ℤ) → pos 0 ≤ℤ a → pos 0 ≤ℤ b → pos 0 ≤ℤ (a *ℤ b)
mul-nonneg_int (pos a) (pos b) p q = omega (arith, ints)
mul-nonneg_int (pos a) (negsuc b) p q = absurd (omega (arith, ints))
mul-nonneg_int (negsuc a) b p q = absurd (omega (arith, ints))

pub mul-pos_int : (a b : ℤ) → pos 0 <ℤ a → pos 0 <ℤ b → pos 0 <ℤ (a *ℤ b)
mul-pos_int (pos a) (pos b) p q =
    let h : 0 < a * b = mul-pos (omega (arith, ints)) (omega (arith, ints)) in omega (arith, ints)
mul-pos_int (pos a) (negsuc b) p q = absurd (omega (arith, ints))
mul-pos_int (negsuc a) b p q = absurd (omega (arith, ints))

product_of_difference : (a b c : ℤ) → a *ℤ c ≡ (a *ℤ (c -ℤ b)) +ℤ (a *ℤ b)
product_of_difference a b c =
    let whole : c ≡ (c -ℤ b) +ℤ b = omega (arith, ints) in
    ap (λ (z : ℤ). a *ℤ z) whole ∙ mul-add_int a (c -ℤ b) b

pub le-mul_left_int : (a b c : ℤ) → pos 0 ≤ℤ a → b ≤ℤ c → (a *ℤ b) ≤ℤ (a *ℤ c)
le-mul_left_int a b c p q =
    let gap : pos 0 ≤ℤ (a *ℤ (c -ℤ b)) = mul-nonneg_int a (c -ℤ b) p (omega (arith, ints)) in
    omega (arith, ints, gap, product_of_difference a b c)

pub lt-mul_left_int : (a b c : ℤ) → pos 0 <ℤ a → b <ℤ c → (a *ℤ b) <ℤ (a *ℤ c)
lt-mul_left_int a b c p q =
    let gap : pos 0 <ℤ (a *ℤ (c -ℤ b)) = mul-pos_int a (c -ℤ b) p (omega (arith, ints)) in
    omega (arith, ints, gap, product_of_difference a b c)

-- a positive factor can be taken off an inequality
pub le_of_mul_left_int : (a b c : ℤ) → pos 0 <ℤ a → (a *ℤ b) ≤ℤ (a *ℤ c) → b ≤ℤ c
le_of_mul_left_int a b c p q =
    by_lt_z c b (λ h. let back : (a *ℤ c) <ℤ (a *ℤ b) = lt-mul_left_int a c b p h in omega (arith, ints)) (λ h. h)

pub lt_of_mul_left_int : (a b c : ℤ) → pos 0 <ℤ a → (a *ℤ b) <ℤ (a *ℤ c) → b <ℤ c
lt_of_mul_left_int a b c p q =
    by_lt_z b c (λ h. h) (λ h. let back : (a *ℤ c) ≤ℤ (a *ℤ b) = le-mul_left_int a c b (omega (arith, ints)) h in absurd (omega (arith, ints)))

-- the quotient by a positive number, rounded down
pub floor_low : (a d : ℤ) → pos 0 <ℤ d → (d *ℤ int_div_euclid a d) ≤ℤ a
floor_low (pos a) (pos d) p = omega (arith, ints)
floor_low (negsuc a) (pos d) p = omega (arith, ints)
floor_low a (negsuc d) p = absurd (omega (arith, ints))

pub floor_high : (a d : ℤ) → pos 0 <ℤ d → a <ℤ ((d *ℤ int_div_euclid a d) +ℤ d)
floor_high (pos a) (pos d) p = omega (arith, ints)
floor_high (negsuc a) (pos d) p = omega (arith, ints)
floor_high a (negsuc d) p = absurd (omega (arith, ints))

-- it is no further from 0 than the number
pub unsigned_abs-floor : (a d : ℤ) → pos 0 <ℤ d → unsigned_abs (int_div_euclid a d) ≤ unsigned_abs a
unsigned_abs-floor (pos a) (pos d) p = omega (arith, ints)
unsigned_abs-floor (negsuc a) (pos d) p = omega (arith, ints)
unsigned_abs-floor a (negsuc d) p = absurd (omega (arith, ints))

-- and exact where the divisor divides the number
pub floor_exact : (a d : ℤ) → pos 0 <ℤ d → unsigned_abs d ∣ unsigned_abs a → d *ℤ int_div_euclid a d ≡ a
floor_exact (pos a) (pos d) p h = omega (arith, ints, mod-eq-zero_of_dvd d h)
floor_exact (negsuc a) (pos d) p h =
    let whole : d * (suc a / d) ≡ suc a = omega (arith, ints, mod-eq-zero_of_dvd d h) in
    let positive : 0 < d = omega (arith, ints) in
    let below : a / d < suc a / d = div_below a d (suc a / d) positive (omega arith) in
    let at_most : d * suc (a / d) ≤ d * (suc a / d) = mul-le-mul_left d (omega arith) in
    omega (arith, ints)
floor_exact a (negsuc d) p h = absurd (omega (arith, ints))
