-- The integers of a range, and what bounds leave of it.
use Rattle.std.proofs.Common.{◌≡◌, ◌≢◌, ℕ, zero, suc, List, [], ◌∷◌, refl, sym, subst, ap, ◌∙◌, arith, ⊎_elim, Bool, true, false, cond}
use Rattle.std.specs.Prelude.{ℤ, pos, negsuc, neg_ℤ, ◌+ℤ◌, ◌-ℤ◌, ◌*ℤ◌, ◌≤ℤ◌, ◌<ℤ◌, Contains, fold, int_lt}
use Rattle.std.specs.List.{All, AllByRecursion}
use Rattle.std.specs.Int.{int_div_euclid, int_max, int_min}
use Rattle.std.proofs.lemmas.Int.{ints, clamps, by_lt_z}
use Rattle.std.proofs.lemmas.List.Elements.{All-head, All-tail}
use Rattle.az_lin.specs.Affine.{value_at}
use Rattle.az_lin.proofs.Integers.{floor_low, floor_high, le-mul_left_int, mul-add_int, add-mul_int}
use Rattle.loop_scan.specs.declared.range.Range.{Range}
use Rattle.loop_scan.specs.declared.bound.Bound.{Bound}
use Rattle.loop_scan.specs.declared.level.Level.{Level}
use Rattle.loop_scan.specs.Nest.Levels.{IsIn, Admits, narrowed, narrowed_at, range_at, IsBound, HasCoordinates, IsLevel}
use Rattle.loop_scan.specs.Hulls.{natural, size}
use Rattle.loop_scan.specs.Nest.Walks.{counted, integers}
use Rattle.loop_scan.proofs.Lists.{first_or_rest, Contains-first, Contains-rest, none_contained}

-- counting
natural-below : (z : ℤ) → z <ℤ pos 1 → natural z ≡ 0
natural-below (pos n) h = omega (arith, ints)
natural-below (negsuc n) h = refl

natural-more : (z w : ℤ) → pos 0 ≤ℤ z → w ≡ z +ℤ pos 1 → natural w ≡ suc (natural z)
natural-more (pos n) w h e = ap natural e ∙ omega arith
natural-more (negsuc n) w h e = absurd (omega (arith, ints))

natural_is : (z : ℤ) → pos 0 ≤ℤ z → pos (natural z) ≡ z
natural_is (pos n) h = refl
natural_is (negsuc n) h = absurd (omega (arith, ints))

pub integers-none : (range : Range) → range.high <ℤ range.low → integers range ≡ []
integers-none range h =
    let none : size range ≡ 0 = natural-below ((range.high +ℤ pos 1) -ℤ range.low) (omega (arith, ints)) in
    ap (counted range.low) none

pub integers-first : (low high : ℤ) → low ≤ℤ high
    → integers (record { low = low; high = high }) ≡ low ∷ integers (record { low = low +ℤ pos 1; high = high })
integers-first low high h =
    ap (counted low) (natural-more ((high +ℤ pos 1) -ℤ (low +ℤ pos 1)) ((high +ℤ pos 1) -ℤ low) (omega (arith, ints)) (omega (arith, ints)))

counted-has : (low : ℤ) (n : ℕ) (x : ℤ) → low ≤ℤ x → x <ℤ (low +ℤ pos n) → Contains (counted low n) x
counted-has low zero x h k = absurd (omega (arith, ints))
counted-has low (suc n) x h k =
    by_lt_z low x
    (λ more. Contains-rest low (counted (low +ℤ pos 1) n) x (counted-has (low +ℤ pos 1) n x (omega (arith, ints)) (omega (arith, ints))))
    (λ less. let e : low ≡ x = omega (arith, ints) in
    let P : ℤ → Type 0 = λ y. Contains (counted low (suc n)) y in subst P e (Contains-first low (counted (low +ℤ pos 1) n)))

pub counted-only : (low : ℤ) (n : ℕ) (x : ℤ) → Contains (counted low n) x → (low ≤ℤ x) × (x <ℤ (low +ℤ pos n))
counted-only low zero x c = absurd (none_contained x c)
counted-only low (suc n) x c =
    ⊎_elim (λ e. (omega (arith, ints), omega (arith, ints)))
    (λ r. let found = counted-only (low +ℤ pos 1) n x r in (omega (arith, ints), omega (arith, ints)))
    (first_or_rest low (counted (low +ℤ pos 1) n) x c)

pub integers-has : (range : Range) (x : ℤ) → IsIn range x → Contains (integers range) x
integers-has range x h =
    let whole : pos (size range) ≡ (range.high +ℤ pos 1) -ℤ range.low = natural_is ((range.high +ℤ pos 1) -ℤ range.low) (omega (arith, ints)) in
    counted-has range.low (size range) x h.0 (omega (arith, ints))

pub integers-only : (range : Range) (x : ℤ) → Contains (integers range) x → IsIn range x
integers-only range x c =
    by_lt_z range.high range.low
    (λ none. let e : size range ≡ 0 = natural-below ((range.high +ℤ pos 1) -ℤ range.low) (omega (arith, ints)) in
    let P : ℕ → Type 0 = λ n. Contains (counted range.low n) x in absurd (none_contained x (subst P e c)))
    (λ some. let whole : pos (size range) ≡ (range.high +ℤ pos 1) -ℤ range.low = natural_is ((range.high +ℤ pos 1) -ℤ range.low) (omega (arith, ints)) in
    let found = counted-only range.low (size range) x c in (found.0, omega (arith, ints)))

-- a positive coefficient bounds from below, by the quotient rounded up
above_low : (coef rest x : ℤ) → pos 0 <ℤ coef → neg_ℤ (int_div_euclid rest coef) ≤ℤ x → pos 0 ≤ℤ ((coef *ℤ x) +ℤ rest)
above_low coef rest x positive h =
    let q = int_div_euclid rest coef in
    let low : (coef *ℤ q) ≤ℤ rest = floor_low rest coef positive in
    let gap : (coef *ℤ pos 0) ≤ℤ (coef *ℤ (q +ℤ x)) = le-mul_left_int coef (pos 0) (q +ℤ x) (omega (arith, ints)) (omega (arith, ints)) in
    omega (arith, ints, low, gap, mul-add_int coef q x)

pub low_below : (coef rest x : ℤ) → pos 0 <ℤ coef → pos 0 ≤ℤ ((coef *ℤ x) +ℤ rest) → neg_ℤ (int_div_euclid rest coef) ≤ℤ x
low_below coef rest x positive h =
    let q = int_div_euclid rest coef in
    by_lt_z x (neg_ℤ q)
    (λ less. let high : rest <ℤ ((coef *ℤ q) +ℤ coef) = floor_high rest coef positive in
    let gap : (coef *ℤ ((q +ℤ x) +ℤ pos 1)) ≤ℤ (coef *ℤ pos 0) = le-mul_left_int coef ((q +ℤ x) +ℤ pos 1) (pos 0) (omega (arith, ints)) (omega (arith, ints)) in
    absurd (omega (arith, ints, high, gap, mul-add_int coef (q +ℤ x) (pos 1), mul-add_int coef q x)))
    (λ more. more)

product_negated : (coef x : ℤ) → coef *ℤ x ≡ neg_ℤ (neg_ℤ coef *ℤ x)
product_negated coef x =
    let none : (coef +ℤ neg_ℤ coef) ≡ pos 0 = omega (arith, ints) in
    let zero_times : (coef +ℤ neg_ℤ coef) *ℤ x ≡ pos 0 = ap (λ (n : ℤ). n *ℤ x) none ∙ omega (arith, ints) in
    omega (arith, ints, zero_times, add-mul_int coef (neg_ℤ coef) x)

-- a negative one bounds from above, by the quotient rounded down
below_high : (coef rest x : ℤ) → coef <ℤ pos 0 → x ≤ℤ int_div_euclid rest (neg_ℤ coef) → pos 0 ≤ℤ ((coef *ℤ x) +ℤ rest)
below_high coef rest x negative h =
    let d = neg_ℤ coef in
    let q = int_div_euclid rest d in
    let positive : pos 0 <ℤ d = omega (arith, ints) in
    let low : (d *ℤ q) ≤ℤ rest = floor_low rest d positive in
    let gap : (d *ℤ x) ≤ℤ (d *ℤ q) = le-mul_left_int d x q (omega (arith, ints)) h in
    let turned : coef *ℤ x ≡ neg_ℤ (d *ℤ x) = product_negated coef x in
    omega (arith, ints, low, gap, turned)

pub high_above : (coef rest x : ℤ) → coef <ℤ pos 0 → pos 0 ≤ℤ ((coef *ℤ x) +ℤ rest) → x ≤ℤ int_div_euclid rest (neg_ℤ coef)
high_above coef rest x negative h =
    let d = neg_ℤ coef in
    let q = int_div_euclid rest d in
    let positive : pos 0 <ℤ d = omega (arith, ints) in
    by_lt_z q x
    (λ more. let high : rest <ℤ ((d *ℤ q) +ℤ d) = floor_high rest d positive in
    let gap : (d *ℤ (q +ℤ pos 1)) ≤ℤ (d *ℤ x) = le-mul_left_int d (q +ℤ pos 1) x (omega (arith, ints)) (omega (arith, ints)) in
    let turned : coef *ℤ x ≡ neg_ℤ (d *ℤ x) = product_negated coef x in
    absurd (omega (arith, ints, high, gap, turned, mul-add_int d q (pos 1))))
    (λ less. less)

negative_of : (c : ℤ) → c ≢ pos 0 → c ≤ℤ pos 0 → c <ℤ pos 0
negative_of c n h = by_lt_z c (pos 0) (λ l. l) (λ g. absurd (n (omega (arith, ints))))

-- a bound narrows a range to the numbers that it admits
pub lt_cases : (P : Bool → Type 0) (a b : ℤ) → (a <ℤ b → P true) → (b ≤ℤ a → P false) → P (int_lt a b)
lt_cases P a b less more =
    by_lt_z a b (λ h. let e : int_lt a b ≡ true = grind (arith, ints) in subst P (sym e) (less h))
    (λ h. let e : int_lt a b ≡ false = grind (arith, ints) in subst P (sym e) (more h))

pub in_narrowed : (coef rest x : ℤ) (range : Range) → coef ≢ pos 0 → IsIn (narrowed coef rest range) x → IsIn range x × (pos 0 ≤ℤ ((coef *ℤ x) +ℤ rest))
in_narrowed coef rest x range nonzero =
    let lower : Range = record { low = int_max (neg_ℤ (int_div_euclid rest coef)) range.low; high = range.high } in
    let upper : Range = record { low = range.low; high = int_min range.high (int_div_euclid rest (neg_ℤ coef)) } in
    lt_cases (λ b. IsIn (cond b lower upper) x → IsIn range x × (pos 0 ≤ℤ ((coef *ℤ x) +ℤ rest))) (pos 0) coef
    (λ positive h. ((omega (arith, ints, clamps), h.1), above_low coef rest x positive (omega (arith, ints, clamps))))
    (λ other h. let negative : coef <ℤ pos 0 = negative_of coef nonzero other in
    ((h.0, omega (arith, ints, clamps)), below_high coef rest x negative (omega (arith, ints, clamps))))

pub narrowed_has : (coef rest x : ℤ) (range : Range) → coef ≢ pos 0 → IsIn range x → pos 0 ≤ℤ ((coef *ℤ x) +ℤ rest) → IsIn (narrowed coef rest range) x
narrowed_has coef rest x range nonzero inside =
    let lower : Range = record { low = int_max (neg_ℤ (int_div_euclid rest coef)) range.low; high = range.high } in
    let upper : Range = record { low = range.low; high = int_min range.high (int_div_euclid rest (neg_ℤ coef)) } in
    lt_cases (λ b. pos 0 ≤ℤ ((coef *ℤ x) +ℤ rest) → IsIn (cond b lower upper) x) (pos 0) coef
    (λ positive h. let least : neg_ℤ (int_div_euclid rest coef) ≤ℤ x = low_below coef rest x positive h in
    (omega (arith, ints, clamps), inside.1))
    (λ other h. let negative : coef <ℤ pos 0 = negative_of coef nonzero other in
    let most : x ≤ℤ int_div_euclid rest (neg_ℤ coef) = high_above coef rest x negative h in
    (inside.0, omega (arith, ints, clamps)))

-- and so do all bounds of a level
pub in_range-all : (k : ℕ) (z : List ℤ) (x : ℤ) (bounds : List Bound) (range : Range) → All (IsBound k) bounds
    → IsIn (fold (narrowed_at z) range bounds) x → IsIn range x × AllByRecursion (λ bound. Admits z bound x) bounds
in_range-all k z x [] range are h = (h, tt)
in_range-all k z x (b ∷ bounds) range are h =
    let rest = in_range-all k z x bounds (narrowed_at z range b) (All-tail (IsBound k) b bounds are) h in
    let here = in_narrowed b.coef (value_at b.rest z) x range (All-head (IsBound k) b bounds are).nonzero rest.0 in
    (here.0, (here.1, rest.1))

pub in_range-has : (k : ℕ) (z : List ℤ) (x : ℤ) (bounds : List Bound) (range : Range) → All (IsBound k) bounds
    → IsIn range x → AllByRecursion (λ bound. Admits z bound x) bounds → IsIn (fold (narrowed_at z) range bounds) x
in_range-has k z x [] range are inside admit = inside
in_range-has k z x (b ∷ bounds) range are inside admit =
    in_range-has k z x bounds (narrowed_at z range b) (All-tail (IsBound k) b bounds are)
    (narrowed_has b.coef (value_at b.rest z) x range (All-head (IsBound k) b bounds are).nonzero inside admit.0) admit.1

pub HasCoordinates-range_at : (k : ℕ) (level : Level) (z : List ℤ) → IsLevel k level → HasCoordinates (range_at level z)
HasCoordinates-range_at k level z is x h = is.coordinates x (in_range-all k z x level.bounds.items level.range is.bounds h).0

-- what the code computes
pub narrowed-positive : (coef rest : ℤ) (range : Range) → pos 0 <ℤ coef
    → record { low = int_max (neg_ℤ (int_div_euclid rest coef)) range.low; high = range.high } ≡ narrowed coef rest range
narrowed-positive coef rest range h = let e : int_lt (pos 0) coef ≡ true = grind (arith, ints) in rw e refl

pub narrowed-negative : (coef rest : ℤ) (range : Range) → coef ≤ℤ pos 0
    → record { low = range.low; high = int_min range.high (int_div_euclid rest (neg_ℤ coef)) } ≡ narrowed coef rest range
narrowed-negative coef rest range h = let e : int_lt (pos 0) coef ≡ false = grind (arith, ints) in rw e refl
