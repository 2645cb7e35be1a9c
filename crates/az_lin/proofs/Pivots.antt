-- What a reduced tableau looks like: each pivot row has an entry in its own column and none in the other pivots'
-- columns, and the rows that are left have none in any. And the points at which all rows are 0 stay the same.
use Rattle.std.proofs.Common.{◌≡◌, ℕ, zero, suc, ◌+◌, ◌<◌, ◌≤◌, arith, refl, sym, subst, ap, ap₂, ◌∙◌, Bool, true, false, List, [], ◌∷◌, ◌++◌, length, take, drop, map, All, get_or, ℤ, pos, negsuc, unsigned_abs, mul-pos, ◌*ℤ◌, ◌<ℤ◌, neg_ℤ}
use Rattle.std.proofs.lemmas.Int.{ints, unsigned_abs-mul}
use Rattle.std.proofs.Math.Nat.{one-dvd}
use Rattle.az_lin.proofs.Negation.{neg_mul}
use Rattle.std.proofs.lemmas.List.{get_or_default, length-map, length-append}
use Rattle.std.proofs.lemmas.List.Elements.{All-head, All-tail, All-append, All-cons, All-nil, All-take, All-drop}
use Rattle.std.proofs.lemmas.List.Sums.{passes_at_first}
use Rattle.std.specs.Int.{int_div_euclid}
use Rattle.std.specs.List.{remove}
use Rattle.az_lin.specs.Affine.{Affine}
use Rattle.az_lin.specs.CommonDivisor.{DividesEach, gcd_of, gcd_of_all}
use Rattle.az_lin.specs.Combination.{scaled_sum, scaled_sums}
use Rattle.az_lin.specs.Inversion.{entry, reaches, at_least_one, primitive, common, row_factor, pivot_factor, difference, cleared, Tableau, place_of, step, reduced, HasSize, HavePivots}
use Rattle.az_lin.proofs.Integers.{floor_exact, mul_comm_int, mul_left_comm_int, mul-pos_int}
use Rattle.az_lin.proofs.DivisorLaws.{gcd_of-is_gcd, gcd_of_all-is_gcd}
use Rattle.az_lin.proofs.Clearing.{gcd_of-positive, is_positive_true, zero_unless_reached, cleared_reached, cleared_unreached, at_least_one_is}
use Rattle.az_lin.proofs.Fractions.{quotient_nonzero, positive_factor}
use Rattle.az_lin.proofs.TableauSteps.{step_found, step_stuck}
use Prim.Native.Nat.{◌∣◌}

pub by_zero : {P : Type 0} (n : ℕ) → (n ≡ 0 → P) → (0 < n → P) → P
by_zero zero f g = f refl
by_zero (suc n) f g = g (omega arith)

pub by_below : {P : Type 0} (i k : ℕ) → (i < k → P) → (k ≤ i → P) → P
by_below i zero f g = g (omega arith)
by_below zero (suc k) f g = f (omega arith)
by_below (suc i) (suc k) f g = by_below i k (λ h. f (omega (arith, h))) (λ h. g (omega (arith, h)))

pub by_last : {P : Type 0} (i k : ℕ) → i < suc k → (i < k → P) → (i ≡ k → P) → P
by_last i k h f g = by_below i k f (λ past. g (omega (arith, h, past)))

-- the divisor of a row is positive and divides its entries
divides_none : (d : ℕ) (zs : List ℤ) → gcd_of_all zs ≡ 0 → DividesEach (at_least_one (gcd_of_all zs)) zs
divides_none d zs none =
    let one : at_least_one (gcd_of_all zs) ≡ 1 = ap at_least_one none in
    subst (λ m. DividesEach m zs) (sym one) (λ k e h. one-dvd (unsigned_abs (get_or zs k e)))

pub primitive_divides : (zs : List ℤ) → DividesEach (at_least_one (gcd_of_all zs)) zs
primitive_divides zs = by_zero (gcd_of_all zs) (λ none. divides_none 0 zs none)
    (λ some. subst (λ m. DividesEach m zs) (sym (at_least_one_is (gcd_of_all zs) some)) (gcd_of_all-is_gcd zs).divides)

at_least_one-positive : (n : ℕ) → 0 < at_least_one n
at_least_one-positive zero = omega arith
at_least_one-positive (suc n) = omega arith

pub divisor_positive : (row : Affine) → pos 0 <ℤ pos (at_least_one (gcd_of_all row.coefs))
divisor_positive row = let some : 0 < at_least_one (gcd_of_all row.coefs) = at_least_one-positive (gcd_of_all row.coefs) in omega (arith, ints, some)

entries_exact : (zs : List ℤ) (g : ℕ) (i : ℕ) → pos 0 <ℤ pos g → DividesEach g zs → pos g *ℤ get_or (map (λ c. int_div_euclid c (pos g)) zs) i (pos 0) ≡ get_or zs i (pos 0)
entries_exact [] g i h d = omega (arith, ints)
entries_exact (z ∷ zs) g zero h d = floor_exact z (pos g) h (All-head (λ y. g ∣ unsigned_abs y) z zs d)
entries_exact (z ∷ zs) g (suc i) h d = entries_exact zs g i h (All-tail (λ y. g ∣ unsigned_abs y) z zs d)

primitive_entry : (row : Affine) (i : ℕ) → pos (at_least_one (gcd_of_all row.coefs)) *ℤ entry i (primitive row) ≡ entry i row
primitive_entry row i = entries_exact row.coefs (at_least_one (gcd_of_all row.coefs)) i (divisor_positive row) (primitive_divides row.coefs)

sums_at : (a : ℤ) (xs : List ℤ) (b : ℤ) (ys : List ℤ) (i : ℕ) → length xs ≡ length ys → get_or (scaled_sums a xs b ys) i (pos 0) ≡ scaled_sum a (get_or xs i (pos 0)) b (get_or ys i (pos 0))
sums_at a [] b [] i h = omega (arith, ints)
sums_at a [] b (y ∷ ys) i h = absurd (omega arith)
sums_at a (x ∷ xs) b [] i h = absurd (omega arith)
sums_at a (x ∷ xs) b (y ∷ ys) zero h = refl
sums_at a (x ∷ xs) b (y ∷ ys) (suc i) h = sums_at a xs b ys i (omega arith)

pub factor_zero : (g x : ℤ) → pos 0 <ℤ g → g *ℤ x ≡ pos 0 → x ≡ pos 0
factor_zero g (pos zero) h is = refl
factor_zero g (pos (suc n)) h is = let some : pos 0 <ℤ (g *ℤ pos (suc n)) = mul-pos_int g (pos (suc n)) h (omega (arith, ints)) in absurd (omega (arith, ints, some, is))
factor_zero g (negsuc n) h is =
    let some : pos 0 <ℤ (g *ℤ pos (suc n)) = mul-pos_int g (pos (suc n)) h (omega (arith, ints)) in
    let flipped : g *ℤ negsuc n ≡ neg_ℤ (g *ℤ pos (suc n)) = omega (arith, ints) in
    absurd (omega (arith, ints, some, is, flipped))

-- the entries of a cleared row, where the row had an entry in the column
cleared_entry : (j i : ℕ) (pivot row : Affine) → length row.coefs ≡ length pivot.coefs → reaches j row ≡ true
    → pos (at_least_one (gcd_of_all (difference j pivot row).coefs)) *ℤ entry i (cleared j pivot row)
    ≡ scaled_sum (row_factor (entry j pivot) (entry j row)) (entry i row) (pivot_factor (entry j pivot) (entry j row)) (entry i pivot)
cleared_entry j i pivot row same reached =
    ap (λ (r : Affine). pos (at_least_one (gcd_of_all (difference j pivot row).coefs)) *ℤ entry i r) (cleared_reached j pivot row reached)
    ∙ primitive_entry (difference j pivot row) i
    ∙ sums_at (row_factor (entry j pivot) (entry j row)) row.coefs (pivot_factor (entry j pivot) (entry j row)) pivot.coefs i same

cross : (a b h p c : ℤ) → h *ℤ a ≡ p → h *ℤ b ≡ c → scaled_sum a c (neg_ℤ b) p ≡ pos 0
cross a b h p c first second =
    ap₂ (λ (x y : ℤ). scaled_sum a x (neg_ℤ b) y) (sym second) (sym first)
    ∙ omega (arith, ints, mul_left_comm_int a h b, mul_left_comm_int b h a, ap (λ (z : ℤ). h *ℤ z) (mul_comm_int a b), neg_mul b (h *ℤ a))

pub by_reach : {P : Type 0} (j : ℕ) (row : Affine) → (reaches j row ≡ false → P) → (reaches j row ≡ true → P) → P
by_reach {P} j row f g = elim (reaches j row) as (λ (b : Bool). (b ≡ false → P) → (b ≡ true → P) → P) [ true ↦ λ x y. y refl | false ↦ λ x y. x refl ] f g

cleared_own : (j : ℕ) (pivot row : Affine) → length row.coefs ≡ length pivot.coefs → 0 < unsigned_abs (entry j pivot) → entry j (cleared j pivot row) ≡ pos 0
cleared_own j pivot row same some =
    let p = entry j pivot in
    let c = entry j row in
    let h = common p c in
    let law = gcd_of-is_gcd (unsigned_abs p) (unsigned_abs c) in
    let big : 0 < gcd_of (unsigned_abs p) (unsigned_abs c) = gcd_of-positive (unsigned_abs p) (unsigned_abs c) some in
    let positive : pos 0 <ℤ h = omega (arith, ints, big) in
    let first : h *ℤ row_factor p c ≡ p = floor_exact p h positive law.0 in
    let second : h *ℤ int_div_euclid c h ≡ c = floor_exact c h positive law.1 in
    by_reach j row
    (λ none. ap (entry j) (sym (cleared_unreached j pivot row none)) ∙ zero_unless_reached j row none)
    (λ reached. factor_zero (pos (at_least_one (gcd_of_all (difference j pivot row).coefs))) (entry j (cleared j pivot row)) (divisor_positive (difference j pivot row))
    (cleared_entry j j pivot row same reached ∙ cross (row_factor p c) (int_div_euclid c h) h p c first second))

pub zero_sum : (a b : ℤ) → scaled_sum a (pos 0) b (pos 0) ≡ pos 0
zero_sum a b = omega (arith, ints)

cleared_zero : (j i : ℕ) (pivot row : Affine) → length row.coefs ≡ length pivot.coefs → entry i row ≡ pos 0 → entry i pivot ≡ pos 0 → entry i (cleared j pivot row) ≡ pos 0
cleared_zero j i pivot row same none none' =
    let a = row_factor (entry j pivot) (entry j row) in
    let b = pivot_factor (entry j pivot) (entry j row) in
    by_reach j row
    (λ off. ap (entry i) (sym (cleared_unreached j pivot row off)) ∙ none)
    (λ reached. factor_zero (pos (at_least_one (gcd_of_all (difference j pivot row).coefs))) (entry i (cleared j pivot row)) (divisor_positive (difference j pivot row))
    (cleared_entry j i pivot row same reached ∙ ap₂ (λ (x y : ℤ). scaled_sum a x b y) none none' ∙ zero_sum a b))

pub product_some : (a x : ℤ) → 0 < unsigned_abs a → 0 < unsigned_abs x → 0 < unsigned_abs (a *ℤ x)
product_some a x p q = rw (unsigned_abs-mul a x) (mul-pos p q)

cleared_some : (j i : ℕ) (pivot row : Affine) → length row.coefs ≡ length pivot.coefs → 0 < unsigned_abs (entry j pivot) → 0 < unsigned_abs (entry i row) → entry i pivot ≡ pos 0
    → 0 < unsigned_abs (entry i (cleared j pivot row))
cleared_some j i pivot row same big some none =
    let a = row_factor (entry j pivot) (entry j row) in
    let b = pivot_factor (entry j pivot) (entry j row) in
    let x = entry i row in
    let factor : 0 < unsigned_abs a = quotient_nonzero (entry j pivot) (unsigned_abs (entry j row)) big in
    by_reach j row
    (λ off. subst (λ (r : Affine). 0 < unsigned_abs (entry i r)) (cleared_unreached j pivot row off) some)
    (λ reached.
    let sum : scaled_sum a x b (entry i pivot) ≡ a *ℤ x = ap (λ (y : ℤ). scaled_sum a x b y) none ∙ omega (arith, ints) in
    positive_factor (entry i (cleared j pivot row)) (pos (at_least_one (gcd_of_all (difference j pivot row).coefs))) (a *ℤ x) (cleared_entry j i pivot row same reached ∙ sum) (product_some a x factor some))

-- the shapes
abbrev pub PivotShapes : ℕ → ℕ → List Affine → Type 0
PivotShapes k j [] = Unit {0}
PivotShapes k j (row ∷ rows) = ((0 < unsigned_abs (entry j row)) × ((i : ℕ) → i < k → (i ≡ j → ⊥) → entry i row ≡ pos 0)) × PivotShapes k (suc j) rows

abbrev pub IsClearedTo : ℕ → Affine → Type 0
IsClearedTo k row = (i : ℕ) → i < k → entry i row ≡ pos 0

pub record Shape (t : Tableau) : Type 0 where
  pub pivots : PivotShapes (length t.pivots) 0 t.pivots
  pub rest : All (IsClearedTo (length t.pivots)) t.rest

pub shapes_have_pivots : (k j : ℕ) (rows : List Affine) → PivotShapes k j rows → HavePivots j rows
shapes_have_pivots k j [] h = tt
shapes_have_pivots k j (row ∷ rows) h = (h.0.0, shapes_have_pivots k (suc j) rows h.1)

pivots_cleared : (k j w : ℕ) (pivot : Affine) (rows : List Affine) → length pivot.coefs ≡ w → All (λ row. length row.coefs ≡ w) rows → IsClearedTo k pivot → 0 < unsigned_abs (entry k pivot)
    → j + length rows ≡ k → PivotShapes k j rows → PivotShapes (suc k) j (map (cleared k pivot) rows ++ pivot ∷ [])
pivots_cleared k j w pivot [] wide widths none some count h =
    let last : j ≡ k = omega (arith, count) in
    ((subst (λ m. 0 < unsigned_abs (entry m pivot)) (sym last) some, λ i below other. by_last i k below (λ before. none i before) (λ same. absurd (other (same ∙ sym last)))), tt)
pivots_cleared k j w pivot (row ∷ rows) wide widths none some count h =
    let W : Affine → Type 0 = λ r. length r.coefs ≡ w in
    let same : length row.coefs ≡ length pivot.coefs = All-head W row rows widths ∙ sym wide in
    let below : j < k = omega (arith, count) in (
      (
        cleared_some k j pivot row same some h.0.0 (none j below),
        λ i within other. by_last i k within (λ before. cleared_zero k i pivot row same (h.0.1 i before other) (none i before))
            (λ last. subst (λ m. entry m (cleared k pivot row) ≡ pos 0) (sym last) (cleared_own k pivot row same some)),
      ),
      pivots_cleared k (suc j) w pivot rows wide (All-tail W row rows widths) none some (omega (arith, count)) h.1,
    )

rest_cleared : (k w : ℕ) (pivot : Affine) (rows : List Affine) → length pivot.coefs ≡ w → All (λ row. length row.coefs ≡ w) rows → IsClearedTo k pivot → 0 < unsigned_abs (entry k pivot)
    → All (IsClearedTo k) rows → All (IsClearedTo (suc k)) (map (cleared k pivot) rows)
rest_cleared k w pivot [] wide widths none some h = All-nil (IsClearedTo (suc k))
rest_cleared k w pivot (row ∷ rows) wide widths none some h =
    let W : Affine → Type 0 = λ r. length r.coefs ≡ w in
    let same : length row.coefs ≡ length pivot.coefs = All-head W row rows widths ∙ sym wide in
    All-cons (IsClearedTo (suc k)) (cleared k pivot row) (map (cleared k pivot) rows)
    (λ i within. by_last i k within (λ before. cleared_zero k i pivot row same (All-head (IsClearedTo k) row rows h i before) (none i before))
    (λ last. subst (λ m. entry m (cleared k pivot row) ≡ pos 0) (sym last) (cleared_own k pivot row same some)))
    (rest_cleared k w pivot rows wide (All-tail W row rows widths) none some (All-tail (IsClearedTo k) row rows h))

-- a step has a pivot or changes nothing
pub step_cases : (t : Tableau) (P : Tableau → Type 0) → P t
    → ((place : ℕ) (pivot : Affine) → place < length t.rest → pivot ≡ get_or t.rest place pivot → reaches (length t.pivots) pivot ≡ true
    → P (record { pivots = map (cleared (length t.pivots) pivot) t.pivots ++ pivot ∷ []; rest = map (cleared (length t.pivots) pivot) (remove t.rest place) }))
    → P (step t)
step_cases t P stays moves =
    let j = length t.pivots in
    let place = place_of j t.rest in
    let none : Affine = record { coefs = []; konst = pos 0 } in
    let pivot = get_or t.rest place none in
    by_below place (length t.rest)
    (λ here.
    let is : pivot ≡ get_or t.rest place pivot = get_or_default t.rest place none pivot here in
    subst P (sym (step_found t place pivot refl here is)) (moves place pivot here is (passes_at_first (reaches j) t.rest none here)))
    (λ past. subst P (sym (step_stuck t past)) stays)

pub remove_keeps : (P : Affine → Type 0) (rows : List Affine) (i : ℕ) → All P rows → All P (remove rows i)
remove_keeps P rows i h = All-append P (take i rows) (drop (suc i) rows) (All-take P i rows h) (All-drop P (suc i) rows h)

pub Shape-step : (n : ℕ) (t : Tableau) → HasSize n t → Shape t → Shape (step t)
Shape-step n t size shape =
    step_cases t Shape shape (λ place pivot here is reached.
    let k = length t.pivots in
    let W : Affine → Type 0 = λ r. length r.coefs ≡ n + n in
    let wide : length pivot.coefs ≡ n + n = subst W (sym is) (size.rest_widths place pivot here) in
    let none : IsClearedTo k pivot = subst (IsClearedTo k) (sym is) (shape.rest place pivot here) in
    let some : 0 < unsigned_abs (entry k pivot) = is_positive_true (unsigned_abs (entry k pivot)) reached in
    let more : length (map (cleared k pivot) t.pivots ++ pivot ∷ []) ≡ suc k =
    length-append (map (cleared k pivot) t.pivots) (pivot ∷ []) ∙ omega (arith, length-map t.pivots (cleared k pivot)) in
    record {
      pivots = subst (λ m. PivotShapes m 0 (map (cleared k pivot) t.pivots ++ pivot ∷ [])) (sym more) (pivots_cleared k 0 (n + n) pivot t.pivots wide size.pivot_widths none some (omega arith) shape.pivots);
      rest = subst (λ m. All (IsClearedTo m) (map (cleared k pivot) (remove t.rest place))) (sym more)
          (rest_cleared k (n + n) pivot (remove t.rest place) wide (remove_keeps W t.rest place size.rest_widths) none some (remove_keeps (IsClearedTo k) t.rest place shape.rest));
    })

pub reduced_keeps : (P : Tableau → Type 0) → ((t : Tableau) → P t → P (step t)) → (n : ℕ) (t : Tableau) → P t → P (reduced n t)
reduced_keeps P f zero t h = h
reduced_keeps P f (suc n) t h = reduced_keeps P f n (step t) (f t h)

pub Shape-start : (rows : List Affine) → Shape (record { pivots = []; rest = rows })
Shape-start rows = record { pivots = tt; rest = λ k d here i below. absurd (omega (arith, below)) }
