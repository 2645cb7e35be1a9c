-- The divisors, factors and entries of a row whose column a pivot row clears.
use Rattle.std.proofs.Common.{◌≡◌, ℕ, zero, suc, ◌+◌, ◌<◌, ◌≤◌, ◌^◌, arith, refl, sym, subst, ap, ap₂, ◌∙◌, Bool, true, false, cond, List, [], ◌∷◌, ◌++◌, length, take, All, get_or, ℤ, pos, negsuc, neg_ℤ, unsigned_abs, ◌-ℤ◌, ◌*ℤ◌, ◌<ℤ◌, to_z, of_z, Option, Some, SomeIff, SFits, rules}
use Rattle.std.proofs.lemmas.Int.{ints, to_z-of_z, fits_signed_from_abs}
use Rattle.std.proofs.lemmas.Bool.{false≢true}
use Rattle.std.proofs.lemmas.Option.{get_or_from_slice_get}
use Rattle.std.proofs.lemmas.Nat.Gcd.{le_of_dvd, dvd_antisymm, dvd-zero, dvd_refl}
use Rattle.std.proofs.Math.Nat.{pos_of_dvd_of_pos}
use Rattle.std.proofs.lemmas.List.{take_more, get_or-take, length-take-le}
use Rattle.std.proofs.lemmas.List.Elements.{All-head, All-tail, All-push, All-same, All-get_or}
use Rattle.std.specs.Int.{w128, int_div_euclid, IsNonZero}
use Rattle.std.specs.List.{slice_get}
use Rattle.az_lin.specs.Affine.{Affine, IsWide}
use Rattle.az_lin.specs.CommonDivisor.{gcd_of, gcd_of_all}
use Rattle.az_lin.specs.Combination.{combination, IsWideCombination, quotient}
use Rattle.az_lin.specs.Inversion.{entry, is_positive, reaches, at_least_one, primitive, row_factor, pivot_factor, difference, cleared, ClearsWide}
use Rattle.az_lin.proofs.DivisorLaws.{gcd_of-is_gcd}
use Rattle.az_lin.proofs.Integers.{unsigned_abs-floor}
use Rattle.az_lin.proofs.WideSums.{quotient_by_one}

pub is_positive_true : (n : ℕ) → is_positive n ≡ true → 0 < n
is_positive_true zero h = absurd (cc)
is_positive_true (suc n) h = omega arith

pub is_positive_from : (n : ℕ) → 0 < n → is_positive n ≡ true
is_positive_from zero h = absurd (omega arith)
is_positive_from (suc n) h = refl

pub is_positive_false : (n : ℕ) → is_positive n ≡ false → n ≡ 0
is_positive_false zero h = refl
is_positive_false (suc n) h = absurd (cc)

unsigned_abs_zero : (z : ℤ) → unsigned_abs z ≡ 0 → z ≡ pos 0
unsigned_abs_zero z h = omega (arith, ints)

pub zero_unless_reached : (j : ℕ) (row : Affine) → reaches j row ≡ false → entry j row ≡ pos 0
zero_unless_reached j row h = unsigned_abs_zero (entry j row) (is_positive_false (unsigned_abs (entry j row)) h)

pub unreached_zero : (j : ℕ) (row : Affine) → entry j row ≡ pos 0 → reaches j row ≡ false
unreached_zero j row h = ap (λ (z : ℤ). is_positive (unsigned_abs z)) h

positive_abs : (z : ℤ) → (z ≡ pos 0 → ⊥) → 0 < unsigned_abs z
positive_abs (pos zero) h = absurd (h refl)
positive_abs (pos (suc n)) h = omega (arith, ints)
positive_abs (negsuc n) h = omega (arith, ints)

pub reached_nonzero : (j : ℕ) (row : Affine) → (entry j row ≡ pos 0 → ⊥) → reaches j row ≡ true
reached_nonzero j row h = is_positive_from (unsigned_abs (entry j row)) (positive_abs (entry j row) h)

pub gcd_of-positive : (a b : ℕ) → 0 < a → 0 < gcd_of a b
gcd_of-positive a b h = pos_of_dvd_of_pos (gcd_of-is_gcd a b).0 h

pub gcd_of-le : (a b : ℕ) → 0 < a → gcd_of a b ≤ a
gcd_of-le a b h = le_of_dvd h (gcd_of-is_gcd a b).0

gcd_of-below : (a b n : ℕ) → a < n → b < n → gcd_of a b < n
gcd_of-below zero zero n p q =
    let none : gcd_of 0 0 ≡ 0 = dvd_antisymm (dvd-zero (gcd_of 0 0)) ((gcd_of-is_gcd 0 0).2 0 (dvd_refl 0) (dvd_refl 0)) in omega (arith, none)
gcd_of-below zero (suc b) n p q =
    let low : gcd_of 0 (suc b) ≤ suc b = le_of_dvd (omega arith) (gcd_of-is_gcd 0 (suc b)).1 in omega (arith, low)
gcd_of-below (suc a) b n p q =
    let low : gcd_of (suc a) b ≤ suc a = gcd_of-le (suc a) b (omega arith) in omega (arith, low)

pub gcd_of_all-wide : (zs : List ℤ) → All IsWide zs → gcd_of_all zs < 2 ^ 127
gcd_of_all-wide [] h = omega arith
gcd_of_all-wide (z ∷ zs) h =
    gcd_of-below (unsigned_abs z) (gcd_of_all zs) (2 ^ 127) (All-head IsWide z zs h) (gcd_of_all-wide zs (All-tail IsWide z zs h))

pub at_least_one_is : (n : ℕ) → 0 < n → at_least_one n ≡ n
at_least_one_is zero h = absurd (omega arith)
at_least_one_is (suc n) h = refl

at_least_one_of_small : (n : ℕ) → n ≤ 1 → at_least_one n ≡ 1
at_least_one_of_small zero h = refl
at_least_one_of_small (suc zero) h = refl
at_least_one_of_small (suc (suc n)) h = absurd (omega arith)

pub primitive_already : (row : Affine) → gcd_of_all row.coefs ≤ 1 → row ≡ primitive row
primitive_already row h = quotient_by_one row (pos (at_least_one (gcd_of_all row.coefs))) (ap pos (at_least_one_of_small (gcd_of_all row.coefs) h))

pub primitive_divided : (row : Affine) (d : ℤ) (g : ℕ) → d ≡ pos g → g ≡ gcd_of_all row.coefs → 0 < g → quotient row d ≡ primitive row
primitive_divided row d g is same h =
    ap (quotient row) (is ∙ ap pos (same ∙ sym (at_least_one_is (gcd_of_all row.coefs) (subst (λ n. 0 < n) same h))))

-- numbers in range, in words
pub word_is : (z : ℤ) → IsWide z → to_z w128 (of_z w128 z) ≡ z
word_is z h = to_z-of_z w128 z (fits_signed_from_abs w128 z h)

pub negated_word : (z : ℤ) → IsWide z → to_z w128 (of_z w128 (pos 0 -ℤ to_z w128 (of_z w128 z))) ≡ neg_ℤ z
negated_word z wide =
    let negative : IsWide (neg_ℤ z) = omega (arith, ints, wide) in
    let same : pos 0 -ℤ to_z w128 (of_z w128 z) ≡ neg_ℤ z = omega (arith, ints, word_is z wide) in
    ap (λ (y : ℤ). to_z w128 (of_z w128 y)) same ∙ word_is (neg_ℤ z) negative

-- a quotient of a number in range is in range
pub quotient_wide : (z d : ℤ) → pos 0 <ℤ d → IsWide z → IsWide (int_div_euclid z d)
quotient_wide z d h wide = let low : unsigned_abs (int_div_euclid z d) ≤ unsigned_abs z = unsigned_abs-floor z d h in omega (arith, low)

pub quotient_word : (q z d e : ℤ) → pos 0 <ℤ d → IsWide z → IsWide d → d ≡ e → q ≡ int_div_euclid (to_z w128 (of_z w128 z)) (to_z w128 (of_z w128 d)) → q ≡ int_div_euclid z e
quotient_word q z d e positive wide wide' same is = is ∙ ap₂ int_div_euclid (word_is z wide) (word_is d wide' ∙ same)

nonzero : (d : ℤ) → pos 0 <ℤ d → IsWide d → IsNonZero w128 d
nonzero (pos n) h wide = let some : 0 < n = omega (arith, ints) in search rules
nonzero (negsuc n) h wide = absurd (omega (arith, ints))

pub positive_nonzero : (d : ℤ) → pos 0 <ℤ d → IsWide d → IsNonZero w128 (to_z w128 (of_z w128 d))
positive_nonzero d h wide = rw (word_is d wide) (nonzero d h wide)

-- the entry that a call reads
pub entry_read : (j : ℕ) (row : Affine) (z : ℤ) → slice_get row.coefs j ≡ Some z → entry j row ≡ z
entry_read j row z h = get_or_from_slice_get row.coefs j z (pos 0) h

pub All-take_more : {X : Type 0} (P : X → Type 0) (xs : List X) (i : ℕ) (d : X) → i < length xs → All P (take i xs) → P (get_or xs i d) → All P (take (i + 1) xs)
All-take_more P xs i d here so_far next = All-same P (take (i + 1) xs) (take i xs ++ get_or xs i d ∷ []) (take_more xs i d here) (All-push P (take i xs) (get_or xs i d) so_far next)

pub unreached_before : (j : ℕ) (rows : List Affine) (i k : ℕ) (d : Affine) → i ≤ length rows → All (λ row. reaches j row ≡ false) (take i rows) → k < i
    → reaches j (get_or rows k d) ≡ false
unreached_before j rows i k d past before below =
    let here : k < length (take i rows) = rw (length-take-le i rows past) below in
    let P : Affine → Type 0 = λ row. reaches j row ≡ false in
    subst P (get_or-take i rows k d below) (All-get_or P (take i rows) k d here before)

-- the difference of a call is the stated one
pub difference_is : (j : ℕ) (pivot row left right : Affine) (a b : ℤ) (got : Option Affine) → left ≡ row → right ≡ pivot
    → a ≡ row_factor (entry j pivot) (entry j row) → b ≡ pivot_factor (entry j pivot) (entry j row)
    → SomeIff got (IsWideCombination a left b right) (combination a left b right)
    → SomeIff got (IsWideCombination (row_factor (entry j pivot) (entry j row)) row (pivot_factor (entry j pivot) (entry j row)) pivot) (difference j pivot row)
difference_is j pivot row left right a b got p q r s h =
    let Fam : Affine → Affine → ℤ → ℤ → Type 0 = λ x y m n. SomeIff got (IsWideCombination m x n y) (combination m x n y) in
    let A = row_factor (entry j pivot) (entry j row) in
    let B = pivot_factor (entry j pivot) (entry j row) in
    subst (λ x. Fam x pivot A B) p (subst (λ y. Fam left y A B) q (subst (λ m. Fam left right m B) r (subst (λ n. Fam left right a n) s h)))

pub cleared_reached : (j : ℕ) (pivot row : Affine) → reaches j row ≡ true → cleared j pivot row ≡ primitive (difference j pivot row)
cleared_reached j pivot row h = ap (λ (b : Bool). cond b (primitive (difference j pivot row)) row) h

pub cleared_unreached : (j : ℕ) (pivot row : Affine) → reaches j row ≡ false → row ≡ cleared j pivot row
cleared_unreached j pivot row h = sym (ap (λ (b : Bool). cond b (primitive (difference j pivot row)) row) h)

pub wide_unreached : (j : ℕ) (pivot row : Affine) → reaches j row ≡ false → ClearsWide j pivot row
wide_unreached j pivot row h = λ reached. absurd (false≢true (sym h ∙ reached))

pub zero_word : (z : ℤ) → IsWide z → of_z w128 z ≡ 0 → z ≡ pos 0
zero_word z wide h = sym (word_is z wide) ∙ ap (to_z w128) h

pub product_in_words : (x d q r : ℤ) → SFits w128 x → SFits w128 d → SFits w128 q → SFits w128 r → r ≡ int_div_euclid (to_z w128 (of_z w128 x)) (to_z w128 (of_z w128 d))
    → to_z w128 (of_z w128 r) *ℤ to_z w128 (of_z w128 q) ≡ int_div_euclid x d *ℤ q
product_in_words x d q r a b c e is =
    ap₂ (λ (m n : ℤ). m *ℤ n) (to_z-of_z w128 r e ∙ is ∙ ap₂ int_div_euclid (to_z-of_z w128 x a) (to_z-of_z w128 d b)) (to_z-of_z w128 q c)

nonzero_any : (z : ℤ) → 0 < unsigned_abs z → IsWide z → IsNonZero w128 z
nonzero_any (pos n) h wide = nonzero (pos n) (omega (arith, ints, h)) wide
nonzero_any (negsuc n) h wide = search rules

pub nonzero_word : (z : ℤ) → 0 < unsigned_abs z → IsWide z → IsNonZero w128 (to_z w128 (of_z w128 z))
nonzero_word z h wide = subst (IsNonZero w128) (sym (word_is z wide)) (nonzero_any z h wide)
