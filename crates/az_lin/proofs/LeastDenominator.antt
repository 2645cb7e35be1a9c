-- The denominator of the rational inverse is the least: it divides each number that brings all the fractions to whole
-- numbers. The vector that goes to zero is the shortest whole one in its direction.
use Rattle.std.proofs.Common.{◌≡◌, ℕ, zero, suc, ◌+◌, ◌*◌, ◌/◌, ◌<◌, ◌≤◌, arith, refl, sym, subst, ap, ◌∙◌, List, [], ◌∷◌, ◌++◌, ◌-◌, replicate, length, All, get_or, ℤ, pos, unsigned_abs, ◌*ℤ◌, ◌<ℤ◌, Err}
use Rattle.std.proofs.lemmas.Int.{ints, unsigned_abs-mul}
use Rattle.std.proofs.lemmas.Nat.Gcd.{dvd_trans, dvd-zero}
use Rattle.std.proofs.Math.Nat.{mul_assoc, one-dvd, dvd-mul_left, dvd-mul_right, mul-div_cancel', div-mul_cancel, mul-dvd-mul_left, mul-dvd-mul_right, dvd_of_mul-dvd-mul_left, dvd_of_mul-dvd-mul_right}
use Rattle.std.proofs.lemmas.List.Elements.{All-head, All-tail, All-weaker}
use Rattle.std.specs.Int.{int_div_euclid}
use Rattle.az_lin.specs.Affine.{Affine, AffineMap, HasWidth}
use Rattle.az_lin.specs.CommonDivisor.{gcd_of, gcd_of_all}
use Rattle.az_lin.specs.Inversion.{entry, HavePivots, columns_of, shared, common_multiple, denominator_from, over_pivot, numerators, final, inverse_denominator, inverse_numerators, kernel_number}
use Rattle.az_lin.specs.InversionAnswer.{IsInversion, HasLeast}
use Rattle.az_lin.specs.declared.fault.LinFault.TheVariants.{NoInverse}
use Rattle.az_lin.specs.declared.fault.NoInverse.TheVariants.{Kernel, Rational}
use Rattle.az_lin.proofs.Integers.{floor_exact}
use Rattle.az_lin.proofs.DivisorLaws.{gcd_of-is_gcd}
use Rattle.az_lin.proofs.Clearing.{gcd_of-positive}
use Rattle.az_lin.proofs.Fractions.{quotient_nonzero, multiple_low, denominator_low, All-front, All-back, All-of_map}
use Rattle.az_lin.proofs.InversionEnd.{final_pivots}
use Rattle.az_lin.proofs.KernelLaws.{exact_negative}
use lib.IntN.{neg_ℤ}
use Rattle.az_lin.proofs.Undone.{exact_over, shared_divides, multiple_of_second, known_divides}
use Prim.Native.Nat.{◌∣◌}

-- what divides the multiples of two numbers divides the multiple of their greatest common divisor
scaled_gcd : (t m x y : ℕ) → t ∣ m * x → t ∣ m * y → t ∣ m * gcd_of x y
scaled_gcd t zero x y p q = let none : 0 ≡ zero * gcd_of x y = omega arith in subst (λ k. t ∣ k) none (dvd-zero t)
scaled_gcd t (suc n) x y p q =
    let m = suc n in
    let some : 0 < m = omega arith in
    let law = gcd_of-is_gcd (m * x) (m * y) in
    let g = gcd_of (m * x) (m * y) in
    let own : m ∣ g = law.2 m (dvd-mul_right m x) (dvd-mul_right m y) in
    let k = g / m in
    let split : m * k ≡ g = mul-div_cancel' m own in
    let left : k ∣ x = dvd_of_mul-dvd-mul_left k some (subst (λ s. s ∣ m * x) (sym split) law.0) in
    let right : k ∣ y = dvd_of_mul-dvd-mul_left k some (subst (λ s. s ∣ m * y) (sym split) law.1) in
    let whole : m * k ∣ m * gcd_of x y = mul-dvd-mul_left k m ((gcd_of-is_gcd x y).2 k left right) in
    dvd_trans t (law.2 t p q) (subst (λ s. s ∣ m * gcd_of x y) split whole)

scaled_gcd_all : (t m : ℕ) (cs : List ℤ) → All (λ c. t ∣ m * unsigned_abs c) cs → t ∣ m * gcd_of_all cs
scaled_gcd_all t m [] h = let none : 0 ≡ m * 0 = omega arith in subst (λ k. t ∣ k) none (dvd-zero t)
scaled_gcd_all t m (c ∷ cs) h =
    let P : ℤ → Type 0 = λ c. t ∣ m * unsigned_abs c in
    scaled_gcd t m (unsigned_abs c) (gcd_of_all cs) (All-head P c cs h) (scaled_gcd_all t m cs (All-tail P c cs h))

-- a common multiple of two numbers is a multiple of the least
multiple_least : (a b m : ℕ) → 0 < a → a ∣ m → b ∣ m → common_multiple a b ∣ m
multiple_least a b m some p q =
    let g = gcd_of a b in
    let big : 0 < g = gcd_of-positive a b some in
    let first : (a / g) * g ≡ a = div-mul_cancel g (gcd_of-is_gcd a b).0 in
    let swap : a * m ≡ m * a = omega arith in
    let left : a * b ∣ m * a = subst (λ k. a * b ∣ k) swap (mul-dvd-mul_left b a q) in
    let right : a * b ∣ m * b = mul-dvd-mul_right a p b in
    let turn : b * g ≡ g * b = omega arith in
    let same : common_multiple a b * g ≡ a * b =
    mul_assoc (a / g) b g ∙ ap (λ k. (a / g) * k) turn ∙ sym (mul_assoc (a / g) g b) ∙ ap (λ k. k * b) first in
    dvd_of_mul-dvd-mul_right (common_multiple a b) big (subst (λ k. k ∣ m * g) (sym same) (scaled_gcd (a * b) m a b left right))

-- one numerator over its own lowest terms
entry_needs : (a b d m u : ℕ) → 0 < b → a * b ∣ m * (u * b) → a * d ∣ m * (d * u)
entry_needs a b d m u some h =
    let two : a ∣ m * u = dvd_of_mul-dvd-mul_right a some (subst (λ k. a * b ∣ k) (sym (mul_assoc m u b)) h) in
    let swap : u * d ≡ d * u = omega arith in
    subst (λ k. a * d ∣ k) (mul_assoc m u d ∙ ap (λ k. m * k) swap) (mul-dvd-mul_right a two d)

factor_some : (a b k : ℕ) → a * b ≡ k → 0 < k → 0 < b
factor_some a zero k is some = absurd (omega (arith, is, some))
factor_some a (suc b) k is some = omega arith

-- a numerator that is the denominator or its negative: each divisor divides it exactly
record IsOver (den : ℕ) (num : ℤ) : Type 0 where
  pub size : unsigned_abs num ≡ den
  pub exact : (q : ℤ) → 0 < unsigned_abs q → unsigned_abs q ∣ den → q *ℤ int_div_euclid num q ≡ num

-- a row's lowest denominator divides each number that brings the row's fractions to whole numbers
row_needs : (den m : ℕ) (num p : ℤ) (cs : List ℤ) → IsOver den num → 0 < den → 0 < unsigned_abs p → unsigned_abs (int_div_euclid p (pos (shared p cs))) ∣ den
    → All (λ x. den ∣ m * unsigned_abs x) (over_pivot num p (shared p cs) cs) → unsigned_abs (int_div_euclid p (pos (shared p cs))) ∣ m
row_needs den m num p cs over positive some divides h =
    let d = shared p cs in
    let q = int_div_euclid p (pos d) in
    let f = int_div_euclid num q in
    let a = unsigned_abs q in
    let b = unsigned_abs f in
    let law = gcd_of-is_gcd (unsigned_abs p) (gcd_of_all cs) in
    let big : 0 < d = gcd_of-positive (unsigned_abs p) (gcd_of_all cs) some in
    let above : pos 0 <ℤ pos d = omega (arith, ints, big) in
    let swap : a * d ≡ d * a = omega arith in
    let pivot : a * d ≡ unsigned_abs p = swap ∙ sym (unsigned_abs-mul (pos d) q) ∙ ap unsigned_abs (floor_exact p (pos d) above law.0) in
    let split : a * b ≡ den = sym (unsigned_abs-mul q f) ∙ ap unsigned_abs (over.exact q (quotient_nonzero p (gcd_of_all cs) some) divides) ∙ over.size in
    let Needs : ℤ → Type 0 = λ x. den ∣ m * unsigned_abs x in
    let each : All (λ c. a * d ∣ m * unsigned_abs c) cs = λ i z here.
    let c = get_or cs i z in
    let e = int_div_euclid c (pos d) in
    let whole : d * unsigned_abs e ≡ unsigned_abs c = sym (unsigned_abs-mul (pos d) e) ∙ ap unsigned_abs (floor_exact c (pos d) above (shared_divides p cs i z here)) in
    let given : den ∣ m * unsigned_abs (e *ℤ f) = All-of_map Needs (λ y. int_div_euclid y (pos d) *ℤ f) cs h i z here in
    let product : den ∣ m * (unsigned_abs e * b) = subst (λ k. den ∣ m * k) (unsigned_abs-mul e f) given in
    subst (λ k. a * d ∣ m * k) whole (entry_needs a b d m (unsigned_abs e) (factor_some a b den split positive) (subst (λ k. k ∣ m * (unsigned_abs e * b)) (sym split) product)) in
    let own : a * d ∣ m * unsigned_abs p = subst (λ k. k ∣ m * unsigned_abs p) (sym pivot) (dvd-mul_left (unsigned_abs p) m) in
    dvd_of_mul-dvd-mul_right a big (scaled_gcd (a * d) m (unsigned_abs p) (gcd_of_all cs) own (scaled_gcd_all (a * d) m cs each))

rows_need : (from count den m known j : ℕ) (num : ℤ) (rows : List Affine) → IsOver den num → den ≡ denominator_from from count known j rows → 0 < den → 0 < known → HavePivots j rows → known ∣ m
    → All (λ x. den ∣ m * unsigned_abs x) (numerators from count num j rows) → den ∣ m
rows_need from count den m known j num [] over is positive some pivots divides h = subst (λ k. k ∣ m) (sym is) divides
rows_need from count den m known j num (row ∷ rows) over is positive some pivots divides h =
    let Needs : ℤ → Type 0 = λ x. den ∣ m * unsigned_abs x in
    let cs = columns_of from count row in
    let p = entry j row in
    let a = unsigned_abs (int_div_euclid p (pos (shared p cs))) in
    let next = common_multiple known a in
    let own = over_pivot num p (shared p cs) cs in
    let rest = numerators from count num (suc j) rows in
    let nonzero : 0 < a = quotient_nonzero p (gcd_of_all cs) pivots.0 in
    let low : known ≤ next = multiple_low known a some nonzero in
    let within : a ∣ den = subst (λ k. a ∣ k) (sym is) (dvd_trans a (multiple_of_second known a) (known_divides from count next (suc j) rows)) in
    let here : a ∣ m = row_needs den m num p cs over positive pivots.0 within (All-front Needs own rest h) in
    rows_need from count den m next (suc j) num rows over is positive (omega (arith, low, some)) pivots.1 (multiple_least known a m some divides here) (All-back Needs own rest h)

pub rational_least : (params : ℕ) (f : AffineMap) (nums : List ℤ) (den : ℤ) → All (HasWidth (params + length f.rows)) f.rows → IsInversion params f (Err (NoInverse (Rational nums den)))
    → HasLeast (NoInverse (Rational nums den))
rational_least params f nums den widths exact =
    let n = length f.rows in
    let t = final params f.rows in
    let k = inverse_denominator n t in
    let pivots : HavePivots 0 t.pivots = final_pivots params f.rows widths in
    let one : 0 < 1 = omega arith in
    let low : 1 ≤ k = denominator_low n n 1 0 t.pivots pivots one in
    let some : 0 < k = omega (arith, low) in
    λ m h.
    let given : All (λ x. k ∣ m * unsigned_abs x) nums = subst (λ (d : ℤ). All (λ x. unsigned_abs d ∣ m * unsigned_abs x) nums) exact.3 h in
    let each : All (λ x. k ∣ m * unsigned_abs x) (inverse_numerators n t) = subst (All (λ x. k ∣ m * unsigned_abs x)) exact.4 given in
    subst (λ (d : ℤ). unsigned_abs d ∣ m) (sym exact.3) (rows_need n n k m 1 0 (pos k) t.pivots (record { size = refl; exact = exact_over k }) refl some one pivots (one-dvd m) each)

-- the numbers of the vector that goes to zero have no common divisor but 1
pub kernel_shortest : (params : ℕ) (f : AffineMap) (vector : List ℤ) → All (HasWidth (params + length f.rows)) f.rows → IsInversion params f (Err (NoInverse (Kernel vector)))
    → HasLeast (NoInverse (Kernel vector))
kernel_shortest params f vector widths exact = λ d h.
    let t = final params f.rows in
    let j = length t.pivots in
    let k = kernel_number t in
    let nums = numerators j 1 (neg_ℤ (pos k)) 0 t.pivots in
    let pad = replicate (length f.rows - suc j) (pos 0) in
    let Divides : ℤ → Type 0 = λ z. d ∣ unsigned_abs z in
    let each : All Divides (nums ++ pos k ∷ pad) = subst (All Divides) exact.2 h in
    let pivots : HavePivots 0 t.pivots = final_pivots params f.rows widths in
    let low : 1 ≤ k = denominator_low j 1 1 0 t.pivots pivots (omega arith) in
    let some : 0 < k = omega (arith, low) in
    let own : d ∣ k = All-head Divides (pos k) pad (All-back Divides nums (pos k ∷ pad) each) in
    let m = k / d in
    let split : m * d ≡ k = div-mul_cancel d own in
    let needs : (z : ℤ) → Divides z → k ∣ m * unsigned_abs z = λ z is. subst (λ s. s ∣ m * unsigned_abs z) split (mul-dvd-mul_left d m is) in
    let all : All (λ x. k ∣ m * unsigned_abs x) nums = All-weaker Divides (λ x. k ∣ m * unsigned_abs x) needs nums (All-front Divides nums (pos k ∷ pad) each) in
    let over : IsOver k (neg_ℤ (pos k)) = record { size = omega (arith, ints); exact = λ q nonzero divides. exact_negative k q some nonzero divides } in
    let whole : k ∣ m = rows_need j 1 k m 1 0 (neg_ℤ (pos k)) t.pivots over refl some (omega arith) pivots (one-dvd m) all in
    let one : k ≡ k * 1 = omega arith in
    dvd_of_mul-dvd-mul_left d some (subst (λ s. k * d ∣ s) (split ∙ one) (mul-dvd-mul_right k whole d))
