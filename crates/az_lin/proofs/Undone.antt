-- A point and the negated image of its index part solve every row of the tableau, from the start to the end. So at the
-- end the pivot rows give the point back from the image.
use Rattle.std.proofs.Common.{◌≡◌, ℕ, zero, suc, ◌+◌, ◌*◌, ◌/◌, ◌<◌, ◌≤◌, arith, refl, sym, subst, ap, ap₂, ◌∙◌, List, [], ◌∷◌, ◌++◌, length, take, drop, set, replicate, map, All, get_or, ℤ, pos, negsuc, unsigned_abs, ◌+ℤ◌, ◌*ℤ◌, ◌<ℤ◌, Result, Ok, Err, IfOk}
use lib.IntN.{neg_ℤ}
use Rattle.std.proofs.lemmas.Int.{ints}
use Rattle.std.proofs.lemmas.Nat.Gcd.{dvd_trans, dvd_refl}
use Rattle.std.proofs.Math.Nat.{mul_assoc, dvd-mul_left, dvd-mul_right, mul-div_cancel', div-mul_cancel}
use Rattle.std.proofs.Math.Seq.{drop-cons, take-append_seam, drop-append_seam}
use Rattle.std.proofs.Math.ListN.{drop_of_length-le}
use Rattle.std.proofs.lemmas.List.{length-map, length-take-le, length-drop, take-append-drop, get_or-take, take_all}
use Rattle.std.proofs.lemmas.List.FromFn.{fill_by_all, length-map-range_with_len}
use Rattle.std.proofs.lemmas.List.Elements.{All-head, All-tail, All-nil, All-cons, All-append, All-weaker}
use Rattle.std.specs.Int.{int_div_euclid}
use Rattle.std.specs.List.{remove, range_with_len}
use Rattle.az_lin.specs.Affine.{Affine, AffineMap, HasWidth, dot, value_at, image_of}
use Rattle.az_lin.specs.CommonDivisor.{DividesEach, gcd_of, gcd_of_all}
use Rattle.az_lin.specs.Combination.{scaled_sum}
use Rattle.az_lin.specs.Substitution.{column, constants}
use Rattle.az_lin.specs.Inversion.{entry, primitive, row_factor, pivot_factor, difference, cleared, Tableau, step, start, final, at_least_one, HasSize, beside, beside_identity, columns_of, shared, common_multiple, denominator_from, over_pivot, numerators, inverse_row, inverse_rows, inverse_denominator, inverse_numerators, inverse_map}
use Rattle.az_lin.specs.InversionAnswer.{IsWhole, IsInversion, TakesBack, index_image, rows_times}
use Rattle.az_lin.specs.declared.fault.LinFault.{LinFault}
use Rattle.az_lin.specs.declared.fault.LinFault.TheVariants.{NoInverse}
use Rattle.az_lin.specs.declared.fault.NoInverse.TheVariants.{Rational}
use Rattle.az_lin.proofs.Integers.{floor_exact, mul_comm_int, mul_assoc_int, mul_left_comm_int, mul-add_int}
use Rattle.az_lin.proofs.StepLaws.{dot-quotient, dot-scaled_sums}
use Rattle.az_lin.proofs.DivisorLaws.{gcd_of-is_gcd, gcd_of_all-is_gcd}
use Rattle.az_lin.proofs.Negation.{neg_mul}
use Rattle.az_lin.proofs.Substitution.{dot-zeros, dot-linear}
use Rattle.az_lin.proofs.Clearing.{cleared_reached, cleared_unreached, gcd_of-positive}
use Rattle.az_lin.proofs.Fractions.{quotient_nonzero, denominator_low}
use Rattle.az_lin.proofs.TableauSteps.{HasSize-step}
use Rattle.az_lin.proofs.Pivots.{factor_zero, zero_sum, by_reach, divisor_positive, primitive_divides, step_cases, remove_keeps, reduced_keeps, PivotShapes}
use Rattle.az_lin.proofs.InversionEnd.{HasSize-start, IsSound, final_sound, final_pivots, rest_none}
use Prim.Native.Nat.{◌∣◌}

abbrev pub Vanishes : List ℤ → Affine → Type 0
Vanishes x row = dot row.coefs x ≡ pos 0

pub record Solves (x : List ℤ) (t : Tableau) : Type 0 where
  pub pivots : All (Vanishes x) t.pivots
  pub rest : All (Vanishes x) t.rest

cleared_vanishes : (x : List ℤ) (j : ℕ) (pivot row : Affine) → length row.coefs ≡ length pivot.coefs → Vanishes x pivot → Vanishes x row → Vanishes x (cleared j pivot row)
cleared_vanishes x j pivot row same p r =
    let a = row_factor (entry j pivot) (entry j row) in
    let b = pivot_factor (entry j pivot) (entry j row) in
    let sum = difference j pivot row in
    let g = at_least_one (gcd_of_all sum.coefs) in
    by_reach j row
    (λ off. subst (Vanishes x) (cleared_unreached j pivot row off) r)
    (λ reached. subst (Vanishes x) (sym (cleared_reached j pivot row reached))
    (factor_zero (pos g) (dot (primitive sum).coefs x) (divisor_positive sum)
    (dot-quotient sum.coefs (pos g) x (divisor_positive sum) (primitive_divides sum.coefs)
    ∙ dot-scaled_sums a row.coefs b pivot.coefs x same ∙ ap₂ (λ (m n : ℤ). scaled_sum a m b n) r p ∙ zero_sum a b)))

rows_vanish : (x : List ℤ) (j w : ℕ) (pivot : Affine) (rows : List Affine) → length pivot.coefs ≡ w → All (λ row. length row.coefs ≡ w) rows → Vanishes x pivot → All (Vanishes x) rows
    → All (Vanishes x) (map (cleared j pivot) rows)
rows_vanish x j w pivot [] wide widths p h = All-nil (Vanishes x)
rows_vanish x j w pivot (row ∷ rows) wide widths p h =
    let W : Affine → Type 0 = λ r. length r.coefs ≡ w in
    All-cons (Vanishes x) (cleared j pivot row) (map (cleared j pivot) rows)
    (cleared_vanishes x j pivot row (All-head W row rows widths ∙ sym wide) p (All-head (Vanishes x) row rows h))
    (rows_vanish x j w pivot rows wide (All-tail W row rows widths) p (All-tail (Vanishes x) row rows h))

pub Solves-step : (x : List ℤ) (n : ℕ) (t : Tableau) → HasSize n t → Solves x t → Solves x (step t)
Solves-step x n t size h =
    step_cases t (Solves x) h (λ place pivot here is reached.
    let k = length t.pivots in
    let W : Affine → Type 0 = λ r. length r.coefs ≡ n + n in
    let wide : length pivot.coefs ≡ n + n = subst W (sym is) (size.rest_widths place pivot here) in
    let p : Vanishes x pivot = subst (Vanishes x) (sym is) (h.rest place pivot here) in
    record {
      pivots = All-append (Vanishes x) (map (cleared k pivot) t.pivots) (pivot ∷ []) (rows_vanish x k (n + n) pivot t.pivots wide size.pivot_widths p h.pivots) (All-cons (Vanishes x) pivot [] p (All-nil (Vanishes x)));
      rest = rows_vanish x k (n + n) pivot (remove t.rest place) wide (remove_keeps W t.rest place size.rest_widths) p (remove_keeps (Vanishes x) t.rest place h.rest);
    })

-- scalar products of parts
pub dot-append : (xs ys zs ws : List ℤ) → length xs ≡ length zs → dot (xs ++ ys) (zs ++ ws) ≡ dot xs zs +ℤ dot ys ws
dot-append [] ys [] ws h = omega (arith, ints)
dot-append [] ys (z ∷ zs) ws h = absurd (omega arith)
dot-append (x ∷ xs) ys [] ws h = absurd (omega arith)
dot-append (x ∷ xs) ys (z ∷ zs) ws h = omega (arith, ints, dot-append xs ys zs ws (omega arith))

pub dot-none : (xs zs : List ℤ) → ((i : ℕ) → i < length xs → get_or xs i (pos 0) ≡ pos 0) → dot xs zs ≡ pos 0
dot-none [] zs h = refl
dot-none (x ∷ xs) [] h = refl
dot-none (x ∷ xs) (z ∷ zs) h =
    let first : x ≡ pos 0 = h 0 (omega arith) in
    let rest : dot xs zs ≡ pos 0 = dot-none xs zs (λ i below. h (suc i) (omega (arith, below))) in
    ap₂ (λ (m n : ℤ). (m *ℤ z) +ℤ n) first rest ∙ omega (arith, ints)

pub dot-single : (xs zs : List ℤ) (j : ℕ) → j < length xs → ((i : ℕ) → i < length xs → (i ≡ j → ⊥) → get_or xs i (pos 0) ≡ pos 0) → dot xs zs ≡ get_or xs j (pos 0) *ℤ get_or zs j (pos 0)
dot-single [] zs j below h = absurd (omega arith)
dot-single (x ∷ xs) [] j below h = omega (arith, ints)
dot-single (x ∷ xs) (z ∷ zs) zero below h =
    let rest : dot xs zs ≡ pos 0 = dot-none xs zs (λ i within. h (suc i) (omega (arith, within)) (λ same. omega (arith, same))) in
    omega (arith, ints, rest)
dot-single (x ∷ xs) (z ∷ zs) (suc j) below h =
    let first : x ≡ pos 0 = h 0 (omega arith) (λ same. omega (arith, same)) in
    let rest : dot xs zs ≡ get_or xs j (pos 0) *ℤ get_or zs j (pos 0) = dot-single xs zs j (omega (arith, below)) (λ i within other. h (suc i) (omega (arith, within)) (λ same. other (omega (arith, same)))) in
    ap (λ (m : ℤ). (m *ℤ z) +ℤ dot xs zs) first ∙ omega (arith, ints, rest)

pub get_or-zeros : (n i : ℕ) → get_or (replicate n (pos 0)) i (pos 0) ≡ pos 0
get_or-zeros zero i = refl
get_or-zeros (suc n) zero = refl
get_or-zeros (suc n) (suc i) = get_or-zeros n i

dot-unit : (n k : ℕ) (v : List ℤ) → k < n → dot (set (replicate n (pos 0)) k (pos 1)) v ≡ get_or v k (pos 0)
dot-unit zero k v h = absurd (omega (arith, h))
dot-unit (suc n) zero [] h = refl
dot-unit (suc n) (suc k) [] h = refl
dot-unit (suc n) zero (x ∷ v) h =
    let rest : dot (replicate n (pos 0)) v ≡ pos 0 = dot-none (replicate n (pos 0)) v (λ i below. get_or-zeros n i) in
    omega (arith, ints, rest)
dot-unit (suc n) (suc k) (x ∷ v) h = omega (arith, ints, dot-unit n k v (omega (arith, h)))

dot-neg_right : (xs ws : List ℤ) → dot xs (map neg_ℤ ws) ≡ neg_ℤ (dot xs ws)
dot-neg_right [] ws = refl
dot-neg_right (x ∷ xs) [] = refl
dot-neg_right (x ∷ xs) (w ∷ ws) = omega (arith, ints, mul_comm_int x (neg_ℤ w), neg_mul w x, mul_comm_int w x, dot-neg_right xs ws)

-- the start is solved
head_of : (k : ℕ) (v rest : List ℤ) (a : ℤ) → drop k v ≡ a ∷ rest → k < length v → get_or v k (pos 0) ≡ a
head_of k v rest a is h = ap (λ (xs : List ℤ). get_or xs 0 (pos 0)) (sym (drop-cons v k (pos 0) h) ∙ is)

tail_of : (k : ℕ) (v rest : List ℤ) (a : ℤ) → drop k v ≡ a ∷ rest → k < length v → drop (suc k) v ≡ rest
tail_of k v rest a is h = ap (λ (xs : List ℤ). drop 1 xs) (sym (drop-cons v k (pos 0) h) ∙ is)

starts_solved : (params n k : ℕ) (rows : List Affine) (z v : List ℤ) → All (HasWidth (params + n)) rows → length z ≡ n → length v ≡ n → k + length rows ≡ n
    → drop k v ≡ map (λ row. neg_ℤ (dot (drop params row.coefs) z)) rows → All (Vanishes (z ++ v)) (beside_identity params n k rows)
starts_solved params n k [] z v widths long wide count is = All-nil (Vanishes (z ++ v))
starts_solved params n k (row ∷ rows) z v widths long wide count is =
    let left = drop params row.coefs in
    let unit = set (replicate n (pos 0)) k (pos 1) in
    let here : k < n = omega (arith, count) in
    let there : k < length v = omega (arith, here, wide) in
    let same : length left ≡ length z = omega (arith, length-drop params row.coefs, All-head (HasWidth (params + n)) row rows widths, long) in
    let value : get_or v k (pos 0) ≡ neg_ℤ (dot left z) = head_of k v (map (λ r. neg_ℤ (dot (drop params r.coefs) z)) rows) (neg_ℤ (dot left z)) is there in
    let none : dot (left ++ unit) (z ++ v) ≡ pos 0 = omega (arith, ints, dot-append left unit z v same, dot-unit n k v here, value) in
    All-cons (Vanishes (z ++ v)) (beside params n k row) (beside_identity params n (suc k) rows) none
    (starts_solved params n (suc k) rows z v (All-tail (HasWidth (params + n)) row rows widths) long wide (omega (arith, count))
    (tail_of k v (map (λ r. neg_ℤ (dot (drop params r.coefs) z)) rows) (neg_ℤ (dot left z)) is there))

-- at the end: the pivot times the coordinate is the product of the other half with the image
pivot_gives : (n j : ℕ) (row : Affine) (z w : List ℤ) → length row.coefs ≡ n + n → j < n → length z ≡ n → ((i : ℕ) → i < n → (i ≡ j → ⊥) → entry i row ≡ pos 0)
    → Vanishes (z ++ map neg_ℤ w) row → entry j row *ℤ get_or z j (pos 0) ≡ dot (drop n row.coefs) w
pivot_gives n j row z w wide below long none h =
    let left = take n row.coefs in
    let right = drop n row.coefs in
    let count : length left ≡ n = length-take-le n row.coefs (omega (arith, wide)) in
    let split : left ++ right ≡ row.coefs = take-append-drop n row.coefs in
    let both : dot left z +ℤ dot right (map neg_ℤ w) ≡ pos 0 =
    sym (dot-append left right z (map neg_ℤ w) (omega (arith, count, long))) ∙ ap (λ (xs : List ℤ). dot xs (z ++ map neg_ℤ w)) split ∙ h in
    let single : dot left z ≡ get_or left j (pos 0) *ℤ get_or z j (pos 0) =
    dot-single left z j (omega (arith, count, below)) (λ i within other. let inside : i < n = omega (arith, within, count) in get_or-take n row.coefs i (pos 0) inside ∙ none i inside other) in
    let pivot : get_or left j (pos 0) ≡ entry j row = get_or-take n row.coefs j (pos 0) below in
    let first : dot left z ≡ entry j row *ℤ get_or z j (pos 0) = single ∙ ap (λ (m : ℤ). m *ℤ get_or z j (pos 0)) pivot in
    omega (arith, ints, both, first, dot-neg_right right w)

-- a factor that isn't 0 can be taken off
cancel_positive : (n : ℕ) (a b : ℤ) → pos (suc n) *ℤ a ≡ pos (suc n) *ℤ b → a ≡ b
cancel_positive n a b same =
    let gap : pos (suc n) *ℤ (a +ℤ neg_ℤ b) ≡ pos 0 = omega (arith, ints, mul-add_int (pos (suc n)) a (neg_ℤ b), mul_comm_int (pos (suc n)) (neg_ℤ b), neg_mul b (pos (suc n)), mul_comm_int b (pos (suc n)), same) in
    let none : a +ℤ neg_ℤ b ≡ pos 0 = factor_zero (pos (suc n)) (a +ℤ neg_ℤ b) (omega (arith, ints)) gap in
    omega (arith, ints, none)

pub mul_cancel : (p a b : ℤ) → 0 < unsigned_abs p → p *ℤ a ≡ p *ℤ b → a ≡ b
mul_cancel (pos zero) a b some same = absurd (omega (arith, ints, some))
mul_cancel (pos (suc n)) a b some same = cancel_positive n a b same
mul_cancel (negsuc n) a b some same =
    let left : negsuc n *ℤ a ≡ neg_ℤ (pos (suc n) *ℤ a) = omega (arith, ints) in
    let right : negsuc n *ℤ b ≡ neg_ℤ (pos (suc n) *ℤ b) = omega (arith, ints) in
    cancel_positive n a b (omega (arith, ints, left, right, same))

neg_product : (n k : ℕ) → negsuc n *ℤ neg_ℤ (pos k) ≡ pos (suc n * k)
neg_product n zero = omega (arith, ints)
neg_product n (suc k) = omega (arith, ints)

-- an exact quotient, whatever the sign of the divisor
pub exact_over : (den : ℕ) (q : ℤ) → 0 < unsigned_abs q → unsigned_abs q ∣ den → q *ℤ int_div_euclid (pos den) q ≡ pos den
exact_over den (pos zero) some h = absurd (omega (arith, ints, some))
exact_over den (pos (suc n)) some h = floor_exact (pos den) (pos (suc n)) (omega (arith, ints)) h
exact_over den (negsuc n) some h =
    neg_product n (den / suc n) ∙ ap pos (mul-div_cancel' (suc n) h)

dot-times : (f : ℤ) (d : ℤ) (cs w : List ℤ) → dot (map (λ c. int_div_euclid c d *ℤ f) cs) w ≡ f *ℤ dot (map (λ c. int_div_euclid c d) cs) w
dot-times f d [] w = omega (arith, ints)
dot-times f d (c ∷ cs) [] = omega (arith, ints)
dot-times f d (c ∷ cs) (x ∷ w) =
    let q = int_div_euclid c d in
    let rest = dot (map (λ (y : ℤ). int_div_euclid y d) cs) w in
    omega (arith, ints, dot-times f d cs w, mul-add_int f (q *ℤ x) rest, mul_assoc_int f q x, ap (λ (m : ℤ). m *ℤ x) (mul_comm_int q f))

pub shared_divides : (p : ℤ) (cs : List ℤ) → DividesEach (shared p cs) cs
shared_divides p cs = λ i d here. dvd_trans (shared p cs) (gcd_of-is_gcd (unsigned_abs p) (gcd_of_all cs)).1 ((gcd_of_all-is_gcd cs).divides i d here)

pub rearranged : (d q f s : ℤ) → (d *ℤ q) *ℤ (f *ℤ s) ≡ (q *ℤ f) *ℤ (d *ℤ s)
rearranged d q f s =
    mul_assoc_int d q (f *ℤ s) ∙ ap (λ (m : ℤ). d *ℤ m) (sym (mul_assoc_int q f s)) ∙ mul_left_comm_int d (q *ℤ f) s

-- a row of numerators gives the denominator times the coordinate
numerators_give : (den : ℕ) (p z : ℤ) (cs w : List ℤ) → 0 < unsigned_abs p → unsigned_abs (int_div_euclid p (pos (shared p cs))) ∣ den → p *ℤ z ≡ dot cs w
    → dot (over_pivot (pos den) p (shared p cs) cs) w ≡ pos den *ℤ z
numerators_give den p z cs w some divides given =
    let d = shared p cs in
    let q = int_div_euclid p (pos d) in
    let f = int_div_euclid (pos den) q in
    let s = dot (map (λ (c : ℤ). int_div_euclid c (pos d)) cs) w in
    let big : 0 < d = gcd_of-positive (unsigned_abs p) (gcd_of_all cs) some in
    let positive : pos 0 <ℤ pos d = omega (arith, ints, big) in
    let first : pos d *ℤ q ≡ p = floor_exact p (pos d) positive (gcd_of-is_gcd (unsigned_abs p) (gcd_of_all cs)).0 in
    let second : q *ℤ f ≡ pos den = exact_over den q (quotient_nonzero p (gcd_of_all cs) some) divides in
    let third : pos d *ℤ s ≡ dot cs w = dot-quotient cs (pos d) w positive (shared_divides p cs) in
    let value : dot (over_pivot (pos den) p d cs) w ≡ f *ℤ s = dot-times f (pos d) cs w in
    mul_cancel p (dot (over_pivot (pos den) p d cs) w) (pos den *ℤ z) some
    (ap₂ (λ (m n : ℤ). m *ℤ n) (sym first) value ∙ rearranged (pos d) q f s ∙ ap₂ (λ (m n : ℤ). m *ℤ n) second (third ∙ sym given) ∙ mul_left_comm_int (pos den) p z)

-- the denominator is a multiple of what each row needs
multiple_of_first : (a m : ℕ) → a ∣ common_multiple a m
multiple_of_first a m =
    let g = gcd_of a m in
    let law = gcd_of-is_gcd a m in
    let first : (a / g) * g ≡ a = div-mul_cancel g law.0 in
    let second : g * (m / g) ≡ m = mul-div_cancel' g law.1 in
    let same : common_multiple a m ≡ a * (m / g) = ap (λ k. (a / g) * k) (sym second) ∙ sym (mul_assoc (a / g) g (m / g)) ∙ ap (λ k. k * (m / g)) first in
    subst (λ k. a ∣ k) (sym same) (dvd-mul_right a (m / g))

pub multiple_of_second : (a m : ℕ) → m ∣ common_multiple a m
multiple_of_second a m = dvd-mul_left m (a / gcd_of a m)

pub known_divides : (from count known j : ℕ) (rows : List Affine) → known ∣ denominator_from from count known j rows
known_divides from count known j [] = dvd_refl known
known_divides from count known j (row ∷ rows) =
    let m = unsigned_abs (int_div_euclid (entry j row) (pos (shared (entry j row) (columns_of from count row)))) in
    dvd_trans known (multiple_of_first known m) (known_divides from count (common_multiple known m) (suc j) rows)

-- the part of a map that the parameters move, and the constants, are taken off
front_at : (params : ℕ) (own : List ℤ) (rows : List Affine) (p : List ℤ) → All (λ row. params ≤ length row.coefs) rows
    → dot (map (λ j. dot own (column j rows)) (range_with_len 0 params)) p ≡ dot own (map (λ row. dot (take params row.coefs) p) rows)
front_at params [] rows p h = dot-zeros (range_with_len 0 params) p
front_at params (c ∷ cs) [] p h = dot-zeros (range_with_len 0 params) p
front_at params (c ∷ cs) (row ∷ rows) p h =
    let W : Affine → Type 0 = λ r. params ≤ length r.coefs in
    let wide : length (take params row.coefs) ≡ params = length-take-le params row.coefs (All-head W row rows h) in
    let columns : map (λ j. get_or row.coefs j (pos 0)) (range_with_len 0 params) ≡ take params row.coefs =
    sym (fill_by_all (λ j. get_or row.coefs j (pos 0)) (take params row.coefs) params (pos 0) wide (λ k below. get_or-take params row.coefs k (pos 0) below)) in
    omega (
      arith,
      ints,
      dot-linear c (λ j. get_or row.coefs j (pos 0)) (λ j. dot cs (column j rows)) (range_with_len 0 params) p,
      ap (λ coefs. c *ℤ dot coefs p) columns,
      front_at params cs rows p (All-tail W row rows h),
    )

dot-negated_map : (f : ℕ → ℤ) (js : List ℕ) (p : List ℤ) → dot (map (λ j. neg_ℤ (f j)) js) p ≡ neg_ℤ (dot (map f js) p)
dot-negated_map f [] p = refl
dot-negated_map f (j ∷ js) [] = refl
dot-negated_map f (j ∷ js) (x ∷ p) = omega (arith, ints, neg_mul (f j) x, dot-negated_map f js p)

parts_at : (params : ℕ) (own : List ℤ) (rows : List Affine) (p z : List ℤ) → length p ≡ params → All (λ row. params ≤ length row.coefs) rows
    → dot own (map (λ row. value_at row (p ++ z)) rows)
    ≡ (dot own (map (λ row. dot (take params row.coefs) p) rows) +ℤ dot own (map (λ row. dot (drop params row.coefs) z) rows)) +ℤ dot own (constants rows)
parts_at params [] rows p z long h = omega (arith, ints)
parts_at params (c ∷ cs) [] p z long h = omega (arith, ints)
parts_at params (c ∷ cs) (row ∷ rows) p z long h =
    let W : Affine → Type 0 = λ r. params ≤ length r.coefs in
    let left = take params row.coefs in
    let right = drop params row.coefs in
    let wide : length left ≡ length p = length-take-le params row.coefs (All-head W row rows h) ∙ sym long in
    let value : dot row.coefs (p ++ z) ≡ dot left p +ℤ dot right z = ap (λ (xs : List ℤ). dot xs (p ++ z)) (sym (take-append-drop params row.coefs)) ∙ dot-append left right p z wide in
    omega (
      arith,
      ints,
      ap (λ (m : ℤ). c *ℤ (m +ℤ row.konst)) value,
      mul-add_int c (dot left p +ℤ dot right z) row.konst,
      mul-add_int c (dot left p) (dot right z),
      parts_at params cs rows p z long (All-tail W row rows h),
    )

pub inverse_row_at : (params : ℕ) (own : List ℤ) (rows : List Affine) (p z : List ℤ) → length p ≡ params → All (λ row. params ≤ length row.coefs) rows
    → value_at (inverse_row params rows own) (p ++ map (λ row. value_at row (p ++ z)) rows) ≡ dot own (map (λ row. dot (drop params row.coefs) z) rows)
inverse_row_at params own rows p z long h =
    let image = map (λ (row : Affine). value_at row (p ++ z)) rows in
    let front = map (λ j. neg_ℤ (dot own (column j rows))) (range_with_len 0 params) in
    let wide : length front ≡ length p = length-map-range_with_len (λ j. neg_ℤ (dot own (column j rows))) 0 params ∙ sym long in
    omega (
      arith,
      ints,
      dot-append front own p image wide,
      dot-negated_map (λ j. dot own (column j rows)) (range_with_len 0 params) p,
      front_at params own rows p h,
      parts_at params own rows p z long h,
    )

-- all rows of numerators take the image back, times the denominator
rows_give : (params n den known j : ℕ) (rows : List Affine) (pivots : List Affine) (z : List ℤ) → den ≡ denominator_from n n known j pivots → length z ≡ n
    → All (λ row. length row.coefs ≡ n + n) pivots → PivotShapes n j pivots
    → All (Vanishes (z ++ map neg_ℤ (index_image params rows z))) pivots → j + length pivots ≡ n
    → rows_times n (length pivots) (numerators n n (pos den) j pivots) (index_image params rows z) ≡ map (λ x. pos den *ℤ x) (drop j z)
rows_give params n den known j rows [] z is wide widths shapes solved count = ap (map (λ x. pos den *ℤ x)) (sym (drop_of_length-le z (omega (arith, count, wide))))
rows_give params n den known j rows (row ∷ pivots) z is wide widths shapes solved count =
    let W : Affine → Type 0 = λ r. length r.coefs ≡ n + n in
    let w = index_image params rows z in
    let x = z ++ map neg_ℤ w in
    let cs = columns_of n n row in
    let m = unsigned_abs (int_div_euclid (entry j row) (pos (shared (entry j row) cs))) in
    let own = over_pivot (pos den) (entry j row) (shared (entry j row) cs) cs in
    let rest = numerators n n (pos den) (suc j) pivots in
    let full : length row.coefs ≡ n + n = All-head W row pivots widths in
    let below : j < n = omega (arith, count) in
    let right : cs ≡ drop n row.coefs = take_all n (drop n row.coefs) (omega (arith, full, length-drop n row.coefs)) in
    let given : entry j row *ℤ get_or z j (pos 0) ≡ dot cs w = pivot_gives n j row z w full below wide shapes.0.1 (All-head (Vanishes x) row pivots solved) ∙ ap (λ (xs : List ℤ). dot xs w) (sym right) in
    let divides : m ∣ den = subst (λ k. m ∣ k) (sym is) (dvd_trans m (multiple_of_second known m) (known_divides n n (common_multiple known m) (suc j) pivots)) in
    let gives : dot own w ≡ pos den *ℤ get_or z j (pos 0) = numerators_give den (entry j row) (get_or z j (pos 0)) cs w shapes.0.0 divides given in
    let own_count : length own ≡ n = length-map cs _ ∙ ap length right ∙ omega (arith, full, length-drop n row.coefs) in
    let first : take n (own ++ rest) ≡ own = ap (λ k. take k (own ++ rest)) (sym own_count) ∙ take-append_seam own rest in
    let second : drop n (own ++ rest) ≡ rest = ap (λ k. drop k (own ++ rest)) (sym own_count) ∙ drop-append_seam own rest in
    ap₂ (λ (xs ys : List ℤ). dot xs w ∷ rows_times n (length pivots) ys w) first second
    ∙ ap₂ (λ (a : ℤ) (more : List ℤ). a ∷ more) gives
    (rows_give params n den (common_multiple known m) (suc j) rows pivots z is wide (All-tail W row pivots widths) shapes.1 (All-tail (Vanishes x) row pivots solved) (omega (arith, count)))
    ∙ ap (map (λ x. pos den *ℤ x)) (sym (drop-cons z j (pos 0) (omega (arith, below, wide))))

-- the rows of the inverse do what the numbers do
inverse_rows_times : (params : ℕ) (rows : List Affine) (k : ℕ) (numbers p z : List ℤ) → length p ≡ params → All (λ row. params ≤ length row.coefs) rows
    → map (λ row. value_at row (p ++ map (λ row. value_at row (p ++ z)) rows)) (inverse_rows params rows k numbers) ≡ rows_times (length rows) k numbers (index_image params rows z)
inverse_rows_times params rows zero numbers p z long h = refl
inverse_rows_times params rows (suc k) numbers p z long h =
    ap₂ (λ (a : ℤ) (more : List ℤ). a ∷ more) (inverse_row_at params (take (length rows) numbers) rows p z long h) (inverse_rows_times params rows k (drop (length rows) numbers) p z long h)

times_one : (z : List ℤ) → map (λ x. pos 1 *ℤ x) z ≡ z
times_one [] = refl
times_one (x ∷ z) = ap₂ (λ (a : ℤ) (more : List ℤ). a ∷ more) (omega (arith, ints)) (times_one z)

record Followed (n : ℕ) (x : List ℤ) (t : Tableau) : Type 0 where
  size : HasSize n t
  solved : Solves x t

map-map-neg : (params : ℕ) (z : List ℤ) (rows : List Affine) → map neg_ℤ (map (λ (row : Affine). dot (drop params row.coefs) z) rows) ≡ map (λ (row : Affine). neg_ℤ (dot (drop params row.coefs) z)) rows
map-map-neg params z [] = refl
map-map-neg params z (row ∷ rows) = ap (λ (xs : List ℤ). neg_ℤ (dot (drop params row.coefs) z) ∷ xs) (map-map-neg params z rows)

-- the numerators take the image of the index part back, times the denominator
pub numerators_undo : (params : ℕ) (f : AffineMap) (z : List ℤ) → All (HasWidth (params + length f.rows)) f.rows → IsWhole params f → length z ≡ length f.rows
    → rows_times (length f.rows) (length f.rows) (inverse_numerators (length f.rows) (final params f.rows)) (index_image params f.rows z)
    ≡ map (λ x. pos (inverse_denominator (length f.rows) (final params f.rows)) *ℤ x) z
numerators_undo params f z widths whole wide =
    let rows = f.rows in
    let n = length rows in
    let t = final params rows in
    let w = index_image params rows z in
    let v = map neg_ℤ w in
    let x = z ++ v in
    let v_count : length v ≡ n = length-map w neg_ℤ ∙ length-map rows _ in
    let begun : Solves x (start params rows) = record {
      pivots = All-nil (Vanishes x);
      rest = starts_solved params n 0 rows z v widths wide v_count (omega arith) (map-map-neg params z rows);
    } in
    let end : Followed n x t =
    reduced_keeps (Followed n x) (λ s h. record { size = HasSize-step n s h.size; solved = Solves-step x n s h.size h.solved }) n (start params rows)
    (record { size = HasSize-start params rows widths; solved = begun }) in
    let sound : IsSound n t = final_sound params rows widths in
    let full : length t.pivots ≡ n = rest_none n t sound.size whole in
    let shapes : PivotShapes n 0 t.pivots = subst (λ m. PivotShapes m 0 t.pivots) full sound.shape.pivots in
    let den = inverse_denominator n t in
    ap (λ k. rows_times n k (inverse_numerators n t) w) (sym full)
    ∙ rows_give params n den 1 0 rows t.pivots z refl wide sound.size.pivot_widths shapes end.solved.pivots (omega (arith, full))

-- the integral inverse gives the point back from its image, for every choice of parameters
pub inverse_undoes : (params : ℕ) (f : AffineMap) (p z : List ℤ) → All (HasWidth (params + length f.rows)) f.rows → IsWhole params f → inverse_denominator (length f.rows) (final params f.rows) ≡ 1
    → length p ≡ params → length z ≡ length f.rows → image_of (inverse_map params f) (p ++ image_of f (p ++ z)) ≡ z
inverse_undoes params f p z widths whole one long wide =
    let n = length f.rows in
    let reach : All (λ row. params ≤ length row.coefs) f.rows = All-weaker (HasWidth (params + n)) (λ row. params ≤ length row.coefs) (λ row h. omega (arith, h)) f.rows widths in
    inverse_rows_times params f.rows n (inverse_numerators n (final params f.rows)) p z long reach
    ∙ numerators_undo params f z widths whole wide ∙ ap (λ k. map (λ x. pos k *ℤ x) z) one ∙ times_one z

pub ok_undoes : (params : ℕ) (f : AffineMap) (answer : Result AffineMap LinFault) (p z : List ℤ) → All (HasWidth (params + length f.rows)) f.rows → IsInversion params f answer
    → length p ≡ params → length z ≡ length f.rows → IfOk answer (λ inverse. image_of inverse (p ++ image_of f (p ++ z)) ≡ z)
ok_undoes params f (Ok inverse) p z widths exact long wide =
    ap (λ (g : AffineMap). image_of g (p ++ image_of f (p ++ z))) exact.3 ∙ inverse_undoes params f p z widths exact.1 exact.2 long wide
ok_undoes params f (Err fault) p z widths exact long wide = tt

above_one : (k : ℕ) → 1 ≤ k → (k ≡ 1 → ⊥) → pos 1 <ℤ pos k
above_one zero low other = absurd (omega (arith, low))
above_one (suc zero) low other = absurd (other refl)
above_one (suc (suc k)) low other = omega (arith, ints)

pub rational_undoes : (params : ℕ) (f : AffineMap) (nums : List ℤ) (den : ℤ) (z : List ℤ) → All (HasWidth (params + length f.rows)) f.rows → IsInversion params f (Err (NoInverse (Rational nums den)))
    → length z ≡ length f.rows → TakesBack params f z (NoInverse (Rational nums den))
rational_undoes params f nums den z widths exact wide =
    let n = length f.rows in
    let t = final params f.rows in
    let k = inverse_denominator n t in
    let low : 1 ≤ k = denominator_low n n 1 0 t.pivots (final_pivots params f.rows widths) (omega arith) in (
      subst (λ (d : ℤ). pos 1 <ℤ d) (sym exact.3) (above_one k low exact.2),
      ap (λ (numbers : List ℤ). rows_times n n numbers (index_image params f.rows z)) exact.4
          ∙ numerators_undo params f z widths exact.1 wide ∙ ap (λ (d : ℤ). map (λ x. d *ℤ x) z) (sym exact.3),
    )
