-- The value of a row at a rational point: one number changed, all numbers scaled, and the point reduced.
use Rattle.std.proofs.Common.{◌≡◌, ◌∙◌, ℕ, zero, suc, ◌<◌, ap, sym, subst, refl, arith, true, false, cond, List, [], ◌∷◌, length, get_or, map, set, Option, ℤ, pos, ◌+ℤ◌, ◌*ℤ◌, ◌≤ℤ◌, ◌<ℤ◌, unsigned_abs}
use Rattle.std.specs.Int.{int_div_euclid}
use Rattle.std.proofs.lemmas.Int.{ints}
use Rattle.std.proofs.lemmas.Bool.Decides.{nat_tests}
use Rattle.std.proofs.lemmas.List.{length-map}
use Rattle.std.proofs.lemmas.List.Elements.{All-head, All-tail}
use Rattle.az_lin.specs.Affine.{Affine, dot}
use Rattle.az_lin.specs.CommonDivisor.{DividesEach, gcd_of_all}
use Rattle.az_lin.specs.Combination.{combination, scaled_sum, quotient}
use Rattle.az_lin.specs.RationalPoint.{value_over}
use Rattle.az_lin.specs.declared.step.RatPoint.{RatPoint}
use Rattle.az_lin.proofs.DivisorLaws.{gcd_of_all-is_gcd}
use Rattle.az_lin.proofs.Integers.{mul-add_int, add-mul_int, mul_assoc_int, mul_left_comm_int, mul-pos_int, le_of_mul_left_int, lt_of_mul_left_int, le-mul_left_int, floor_exact, floor_low}
use Rattle.az_lin.proofs.StepLaws.{dot-scaled_sums, dot-quotient}
use Rattle.farkas_find.specs.Tidying.{is_rounded, rounded}
use Rattle.farkas_find.specs.BackSubstitution.{put, cleared, factor_at, number_at, scaled, reduced, placed_by}
use Rattle.farkas_find.specs.declared.bound.Bound.{Bound}
use Rattle.farkas_find.proofs.Reduced.{common_is_positive, positive_whole}
use Prim.Native.Nat.{◌∣◌}

-- a number that was 0 is set
dot-set : (cs ns : List ℤ) (k : ℕ) (v : ℤ) → k < length ns → get_or ns k (pos 0) ≡ pos 0 → dot cs (set ns k v) ≡ dot cs ns +ℤ (get_or cs k (pos 0) *ℤ v)
dot-set [] ns k v inside none = omega (arith, ints)
dot-set (c ∷ cs) [] k v inside none = absurd (omega arith)
dot-set (c ∷ cs) (n ∷ ns) zero v inside none = rw none (omega (arith, ints))
dot-set (c ∷ cs) (n ∷ ns) (suc k) v inside none = omega (arith, ints, dot-set cs ns k v (omega arith) none)

-- and a number is left out
dot-clear : (cs ns : List ℤ) (k : ℕ) → k < length ns → dot cs ns ≡ dot cs (set ns k (pos 0)) +ℤ (get_or cs k (pos 0) *ℤ get_or ns k (pos 0))
dot-clear [] ns k inside = omega (arith, ints)
dot-clear (c ∷ cs) [] k inside = absurd (omega arith)
dot-clear (c ∷ cs) (n ∷ ns) zero inside = omega (arith, ints)
dot-clear (c ∷ cs) (n ∷ ns) (suc k) inside = omega (arith, ints, dot-clear cs ns k (omega arith))

pub get_or-cleared : (ns : List ℤ) (k : ℕ) → k < length ns → get_or (set ns k (pos 0)) k (pos 0) ≡ pos 0
get_or-cleared [] k inside = absurd (omega arith)
get_or-cleared (n ∷ ns) zero inside = refl
get_or-cleared (n ∷ ns) (suc k) inside = get_or-cleared ns k (omega arith)

get_or-scaled : (f : ℤ) (ns : List ℤ) (k : ℕ) → k < length ns → get_or ns k (pos 0) ≡ pos 0 → get_or (map (λ n. f *ℤ n) ns) k (pos 0) ≡ pos 0
get_or-scaled f [] k inside none = absurd (omega arith)
get_or-scaled f (n ∷ ns) zero inside none = rw none (omega (arith, ints))
get_or-scaled f (n ∷ ns) (suc k) inside none = get_or-scaled f ns k (omega arith) none

dot-scaled : (f : ℤ) (cs ns : List ℤ) → dot cs (map (λ n. f *ℤ n) ns) ≡ f *ℤ dot cs ns
dot-scaled f [] ns = omega (arith, ints)
dot-scaled f (c ∷ cs) [] = omega (arith, ints)
dot-scaled f (c ∷ cs) (n ∷ ns) = omega (arith, ints, dot-scaled f cs ns, mul_left_comm_int c f n, mul-add_int f (c *ℤ n) (dot cs ns))

dot-divided : (g : ℤ) (cs ns : List ℤ) → pos 0 <ℤ g → DividesEach (unsigned_abs g) ns → g *ℤ dot cs (map (λ n. int_div_euclid n g) ns) ≡ dot cs ns
dot-divided g [] ns positive divides = omega (arith, ints)
dot-divided g (c ∷ cs) [] positive divides = omega (arith, ints)
dot-divided g (c ∷ cs) (n ∷ ns) positive divides =
    let q = int_div_euclid n g in
    let rest = dot cs (map (λ n. int_div_euclid n g) ns) in
    let exact : g *ℤ q ≡ n = floor_exact n g positive (All-head (λ z. unsigned_abs g ∣ unsigned_abs z) n ns divides) in
    let here : g *ℤ (c *ℤ q) ≡ c *ℤ n = mul_left_comm_int g c q ∙ ap (λ (z : ℤ). c *ℤ z) exact in
    omega (arith, ints, mul-add_int g (c *ℤ q) rest, here, dot-divided g cs ns positive (All-tail (λ z. unsigned_abs g ∣ unsigned_abs z) n ns divides))

-- the value of a row where one number is left out
pub value_over-cleared : (row : Affine) (point : RatPoint) (k : ℕ) → k < length point.nums
    → value_over row point ≡ value_over row (cleared k point) +ℤ (get_or row.coefs k (pos 0) *ℤ get_or point.nums k (pos 0))
value_over-cleared row point k inside = omega (arith, ints, dot-clear row.coefs point.nums k inside)

-- the value at a point that is scaled and in which one number is put
value_over-put : (row : Affine) (point : RatPoint) (k : ℕ) (f v : ℤ) → k < length point.nums → get_or point.nums k (pos 0) ≡ pos 0
    → value_over row (put k v (scaled f point)) ≡ (f *ℤ value_over row point) +ℤ (get_or row.coefs k (pos 0) *ℤ v)
unfolding scaled
value_over-put row point k f v inside none =
    let ms = map (λ n. f *ℤ n) point.nums in
    let long : k < length ms = rw (length-map point.nums (λ n. f *ℤ n)) inside in
    omega (
      arith,
      ints,
      dot-set row.coefs ms k v long (get_or-scaled f point.nums k inside none),
      dot-scaled f row.coefs point.nums,
      mul_left_comm_int row.konst f point.den,
      mul-add_int f (row.konst *ℤ point.den) (dot row.coefs point.nums),
    )

value_over-reduced : (row : Affine) (point : RatPoint) → pos 0 <ℤ point.den
    → pos (gcd_of_all (point.den ∷ point.nums)) *ℤ value_over row (reduced point) ≡ value_over row point
unfolding reduced
value_over-reduced row point positive =
    let g = gcd_of_all (point.den ∷ point.nums) in
    let above : pos 0 <ℤ pos g = positive_whole g (common_is_positive point.den point.nums positive) in
    let divides : DividesEach g (point.den ∷ point.nums) = (gcd_of_all-is_gcd (point.den ∷ point.nums)).divides in
    let P = λ (z : ℤ). g ∣ unsigned_abs z in
    let q = int_div_euclid point.den (pos g) in
    let exact : pos g *ℤ q ≡ point.den = floor_exact point.den (pos g) above (All-head P point.den point.nums divides) in
    let konst : pos g *ℤ (row.konst *ℤ q) ≡ row.konst *ℤ point.den = mul_left_comm_int (pos g) row.konst q ∙ ap (λ (z : ℤ). row.konst *ℤ z) exact in
    let rest = dot row.coefs (map (λ n. int_div_euclid n (pos g)) point.nums) in
    omega (arith, ints, mul-add_int (pos g) (row.konst *ℤ q) rest, konst, dot-divided (pos g) row.coefs point.nums above (All-tail P point.den point.nums divides))

-- a row that a point meets
abbrev pub Meets : RatPoint → Affine → Type 0
Meets point row = pos 0 ≤ℤ value_over row point

meets_reduced : (row : Affine) (point : RatPoint) → pos 0 <ℤ point.den → Meets point row → Meets (reduced point) row
meets_reduced row point positive meets =
    let g = gcd_of_all (point.den ∷ point.nums) in
    let above : pos 0 <ℤ pos g = positive_whole g (common_is_positive point.den point.nums positive) in
    le_of_mul_left_int (pos g) (pos 0) (value_over row (reduced point)) above (omega (arith, ints, value_over-reduced row point positive, meets))

pub meets_placed : (row : Affine) (point : RatPoint) (k : ℕ) (bound : Option Bound) → k < length point.nums → get_or point.nums k (pos 0) ≡ pos 0
    → pos 0 <ℤ point.den → pos 0 <ℤ factor_at bound
    → pos 0 ≤ℤ ((factor_at bound *ℤ value_over row point) +ℤ (get_or row.coefs k (pos 0) *ℤ number_at bound)) → Meets (placed_by k bound point) row
unfolding placed_by scaled
meets_placed row point k bound inside none positive above h =
    let moved = put k (number_at bound) (scaled (factor_at bound) point) in
    let at_least : ℤ → Type 0 = λ z. pos 0 ≤ℤ z in
    meets_reduced row moved (mul-pos_int (factor_at bound) point.den above positive)
    (subst at_least (sym (value_over-put row point k (factor_at bound) (number_at bound) inside none)) h)

-- the denominator stays positive
denominator_of_reduced : (point : RatPoint) → pos 0 <ℤ point.den → pos 0 <ℤ (reduced point).den
unfolding reduced
denominator_of_reduced point positive =
    let g = gcd_of_all (point.den ∷ point.nums) in
    let above : pos 0 <ℤ pos g = positive_whole g (common_is_positive point.den point.nums positive) in
    let P = λ (z : ℤ). g ∣ unsigned_abs z in
    let exact : pos g *ℤ int_div_euclid point.den (pos g) ≡ point.den =
    floor_exact point.den (pos g) above (All-head P point.den point.nums (gcd_of_all-is_gcd (point.den ∷ point.nums)).divides) in
    lt_of_mul_left_int (pos g) (pos 0) (int_div_euclid point.den (pos g)) above (omega (arith, ints, exact, positive))

pub denominator_of_placed : (point : RatPoint) (k : ℕ) (bound : Option Bound) → pos 0 <ℤ point.den → pos 0 <ℤ factor_at bound → pos 0 <ℤ (placed_by k bound point).den
unfolding placed_by scaled
denominator_of_placed point k bound positive above =
    denominator_of_reduced (put k (number_at bound) (scaled (factor_at bound) point)) (mul-pos_int (factor_at bound) point.den above positive)

-- a row is weaker than its rounding
konst_rounded : (k g d q : ℤ) → pos 0 <ℤ d → (g *ℤ q) ≤ℤ k → (g *ℤ (q *ℤ d)) ≤ℤ (k *ℤ d)
konst_rounded k g d q positive below =
    let more : (d *ℤ (g *ℤ q)) ≤ℤ (d *ℤ k) = le-mul_left_int d (g *ℤ q) k (omega (arith, ints)) below in
    omega (arith, ints, more, mul_assoc_int g q d)

meets_unquotient : (row : Affine) (g : ℤ) (point : RatPoint) → pos 0 <ℤ g → DividesEach (unsigned_abs g) row.coefs → pos 0 <ℤ point.den
    → Meets point (quotient row g) → Meets point row
meets_unquotient row g point above divides positive meets =
    let q = int_div_euclid row.konst g in
    let rest = dot (quotient row g).coefs point.nums in
    let konst = konst_rounded row.konst g point.den q positive (floor_low row.konst g above) in
    let same = dot-quotient row.coefs g point.nums above divides in
    let more : (g *ℤ pos 0) ≤ℤ (g *ℤ ((q *ℤ point.den) +ℤ rest)) = le-mul_left_int g (pos 0) ((q *ℤ point.den) +ℤ rest) (omega (arith, ints)) meets in
    omega (arith, ints, more, konst, same, mul-add_int g (q *ℤ point.den) rest)

pub above_one : (row : Affine) → is_rounded row ≡ true → pos 0 <ℤ pos (gcd_of_all row.coefs)
above_one row above = grind (arith, ints, nat_tests)

pub meets_unrounded : (row : Affine) (point : RatPoint) → pos 0 <ℤ point.den → Meets point (rounded row) → Meets point row
unfolding rounded
meets_unrounded row point positive meets =
    (elim (is_rounded row) as (λ b. is_rounded row ≡ b → Meets point (cond b (quotient row (pos (gcd_of_all row.coefs))) row) → Meets point row) [
      | true ↦ λ e h. meets_unquotient row (pos (gcd_of_all row.coefs)) point (above_one row e) (gcd_of_all-is_gcd row.coefs).divides positive h
      | false ↦ λ e h. h
    ]) refl meets

-- the sum of two rows
pub value_over-combination : (a : ℤ) (left : Affine) (b : ℤ) (right : Affine) (point : RatPoint) → length left.coefs ≡ length right.coefs
    → value_over (combination a left b right) point ≡ scaled_sum a (value_over left point) b (value_over right point)
value_over-combination a left b right point same =
    omega (
      arith,
      ints,
      dot-scaled_sums a left.coefs b right.coefs point.nums same,
      add-mul_int (a *ℤ left.konst) (b *ℤ right.konst) point.den,
      mul_assoc_int a left.konst point.den,
      mul_assoc_int b right.konst point.den,
      mul-add_int a (left.konst *ℤ point.den) (dot left.coefs point.nums),
      mul-add_int b (right.konst *ℤ point.den) (dot right.coefs point.nums),
    )
