-- Where the elimination ends before the last column, the vector that it answers goes to zero: it solves the rows at the
-- end, and so those at the start.
use Rattle.std.proofs.Common.{◌≡◌, ℕ, zero, suc, ◌+◌, ◌-◌, ◌/◌, ◌<◌, ◌≤◌, arith, refl, sym, subst, ap, ap₂, ◌∙◌, append_assoc, List, [], ◌∷◌, ◌++◌, length, take, drop, set, replicate, map, All, get_or, ℤ, pos, negsuc, unsigned_abs, ◌+ℤ◌, ◌*ℤ◌, ◌<ℤ◌, Err}
use lib.IntN.{neg_ℤ}
use Rattle.std.proofs.lemmas.Int.{ints}
use Rattle.std.proofs.lemmas.Nat.Gcd.{dvd_trans}
use Rattle.std.proofs.Math.Seq.{drop-cons}
use Rattle.std.proofs.lemmas.List.{length-map, length-append, length-take-le, length-drop, length-replicate, take-append-drop, get_or-take, get_or_default, nil_from_length}
use Rattle.std.proofs.lemmas.List.Edits.{length-remove}
use Rattle.std.proofs.lemmas.List.Elements.{All-head, All-tail, All-nil, All-cons, All-append, All-take, All-drop, All-weaker, All-replicate}
use Rattle.std.proofs.lemmas.List.Sums.{fails_before_first}
use Rattle.std.specs.Int.{int_div_euclid}
use Rattle.std.specs.List.{remove}
use Rattle.az_lin.specs.Affine.{Affine, AffineMap, HasWidth, dot}
use Rattle.az_lin.specs.CommonDivisor.{gcd_of_all}
use Rattle.az_lin.specs.Combination.{scaled_sum}
use Rattle.az_lin.specs.Inversion.{entry, reaches, primitive, row_factor, pivot_factor, difference, cleared, Tableau, place_of, step, start, final, reduced, at_least_one, HasSize, HavePivots, beside, beside_identity, columns_of, shared, common_multiple, denominator_from, over_pivot, numerators, kernel_number, kernel_vector}
use Rattle.az_lin.specs.InversionAnswer.{IsKernel, IsInversion, index_image}
use Rattle.az_lin.specs.declared.fault.LinFault.TheVariants.{NoInverse}
use Rattle.az_lin.specs.declared.fault.NoInverse.TheVariants.{Kernel}
use Rattle.az_lin.proofs.Integers.{floor_exact, mul_comm_int}
use Rattle.az_lin.proofs.Negation.{neg_mul}
use Rattle.az_lin.proofs.StepLaws.{dot-quotient, dot-scaled_sums}
use Rattle.az_lin.proofs.DivisorLaws.{gcd_of-is_gcd, gcd_of_all-is_gcd}
use Rattle.az_lin.proofs.Clearing.{cleared_reached, cleared_unreached, is_positive_true, zero_unless_reached, gcd_of-positive}
use Rattle.az_lin.proofs.Fractions.{quotient_nonzero, denominator_low, All-front, All-back, length-numerators}
use Rattle.az_lin.proofs.TableauSteps.{HasSize-step, step_found, step_stuck}
use Rattle.az_lin.proofs.Pivots.{by_reach, by_below, divisor_positive, primitive_divides, step_cases, PivotShapes, Shape, shapes_have_pivots}
use Rattle.az_lin.proofs.InversionEnd.{HasSize-start, IsSound, final_sound, final_pivots, rest_some, length-beside_identity}
use Rattle.az_lin.proofs.Undone.{Vanishes, Solves, mul_cancel, rearranged, dot-append, dot-none, dot-single, multiple_of_second, known_divides}
use Prim.Native.Nat.{◌∣◌}

-- a row that a pivot row has cleared was solved if both are
cleared_back : (x : List ℤ) (j : ℕ) (pivot row : Affine) → length row.coefs ≡ length pivot.coefs → 0 < unsigned_abs (entry j pivot) → Vanishes x pivot → Vanishes x (cleared j pivot row) → Vanishes x row
cleared_back x j pivot row same some p h =
    let a = row_factor (entry j pivot) (entry j row) in
    let b = pivot_factor (entry j pivot) (entry j row) in
    let sum = difference j pivot row in
    let g = at_least_one (gcd_of_all sum.coefs) in
    by_reach j row
    (λ off. subst (Vanishes x) (sym (cleared_unreached j pivot row off)) h)
    (λ reached.
    let none : dot (primitive sum).coefs x ≡ pos 0 = subst (Vanishes x) (cleared_reached j pivot row reached) h in
    let scaled : pos g *ℤ dot (primitive sum).coefs x ≡ scaled_sum a (dot row.coefs x) b (dot pivot.coefs x) =
    dot-quotient sum.coefs (pos g) x (divisor_positive sum) (primitive_divides sum.coefs) ∙ dot-scaled_sums a row.coefs b pivot.coefs x same in
    let left : pos g *ℤ dot (primitive sum).coefs x ≡ pos 0 = ap (λ (m : ℤ). pos g *ℤ m) none ∙ omega (arith, ints) in
    let right : scaled_sum a (dot row.coefs x) b (dot pivot.coefs x) ≡ a *ℤ dot row.coefs x = ap (λ (m : ℤ). scaled_sum a (dot row.coefs x) b m) p ∙ omega (arith, ints) in
    mul_cancel a (dot row.coefs x) (pos 0) (quotient_nonzero (entry j pivot) (unsigned_abs (entry j row)) some) (sym right ∙ sym scaled ∙ left ∙ omega (arith, ints)))

rows_back : (x : List ℤ) (j w : ℕ) (pivot : Affine) (rows : List Affine) → length pivot.coefs ≡ w → All (λ row. length row.coefs ≡ w) rows → 0 < unsigned_abs (entry j pivot) → Vanishes x pivot
    → All (Vanishes x) (map (cleared j pivot) rows) → All (Vanishes x) rows
rows_back x j w pivot [] wide widths some p h = All-nil (Vanishes x)
rows_back x j w pivot (row ∷ rows) wide widths some p h =
    let W : Affine → Type 0 = λ r. length r.coefs ≡ w in
    All-cons (Vanishes x) row rows
    (cleared_back x j pivot row (All-head W row rows widths ∙ sym wide) some p (All-head (Vanishes x) (cleared j pivot row) (map (cleared j pivot) rows) h))
    (rows_back x j w pivot rows wide (All-tail W row rows widths) some p (All-tail (Vanishes x) (cleared j pivot row) (map (cleared j pivot) rows) h))

remove_widths : (W : Affine → Type 0) (rows : List Affine) (i : ℕ) → All W rows → All W (remove rows i)
remove_widths W rows i h = All-append W (take i rows) (drop (suc i) rows) (All-take W i rows h) (All-drop W (suc i) rows h)

put_back : (P : Affine → Type 0) (rows : List Affine) (i : ℕ) (row : Affine) → i < length rows → row ≡ get_or rows i row → P row → All P (remove rows i) → All P rows
put_back P rows i row here is p h =
    let front = take i rows in
    let after = drop (suc i) rows in
    let split : front ++ (row ∷ after) ≡ rows =
    ap (λ (xs : List Affine). front ++ xs) (ap (λ (r : Affine). r ∷ after) is ∙ sym (drop-cons rows i row here)) ∙ take-append-drop i rows in
    subst (All P) split (All-append P front (row ∷ after) (All-front P front after h) (All-cons P row after p (All-back P front after h)))

Solves-back : (x : List ℤ) (n : ℕ) (t : Tableau) → HasSize n t → Solves x (step t) → Solves x t
Solves-back x n t size =
    step_cases t (λ s. Solves x s → Solves x t) (λ h. h) (λ place pivot here is reached. λ h.
    let k = length t.pivots in
    let W : Affine → Type 0 = λ r. length r.coefs ≡ n + n in
    let wide : length pivot.coefs ≡ n + n = subst W (sym is) (size.rest_widths place pivot here) in
    let some : 0 < unsigned_abs (entry k pivot) = is_positive_true (unsigned_abs (entry k pivot)) reached in
    let p : Vanishes x pivot = All-head (Vanishes x) pivot [] (All-back (Vanishes x) (map (cleared k pivot) t.pivots) (pivot ∷ []) h.pivots) in
    record {
      pivots = rows_back x k (n + n) pivot t.pivots wide size.pivot_widths some p (All-front (Vanishes x) (map (cleared k pivot) t.pivots) (pivot ∷ []) h.pivots);
      rest = put_back (Vanishes x) t.rest place pivot here is p (rows_back x k (n + n) pivot (remove t.rest place) wide (remove_widths W t.rest place size.rest_widths) some p h.rest);
    })

reduced_back : (x : List ℤ) (n k : ℕ) (t : Tableau) → HasSize n t → Solves x (reduced k t) → Solves x t
reduced_back x n zero t size h = h
reduced_back x n (suc k) t size h = Solves-back x n t size (reduced_back x n k (step t) (HasSize-step n t size) h)

-- the end is stuck where rows are left
fewer_left : (t : Tableau) (k : ℕ) → place_of (length t.pivots) t.rest < length t.rest → length t.rest ≤ suc k → length (step t).rest ≤ k
fewer_left t k here short =
    let j = length t.pivots in
    let place = place_of j t.rest in
    let none : Affine = record { coefs = []; konst = pos 0 } in
    let pivot = get_or t.rest place none in
    let is : pivot ≡ get_or t.rest place pivot = get_or_default t.rest place none pivot here in
    let made = step_found t place pivot refl here is in
    let count : length (step t).rest ≡ length (remove t.rest place) = ap (λ (s : Tableau). length s.rest) made ∙ length-map (remove t.rest place) (cleared j pivot) in
    omega (arith, count, length-remove t.rest place here, short)

stuck_stays : (k : ℕ) (t : Tableau) → length t.rest ≤ place_of (length t.pivots) t.rest → reduced k t ≡ t
stuck_stays zero t h = refl
stuck_stays (suc k) t h = ap (reduced k) (step_stuck t h) ∙ stuck_stays k t h

ends_stuck : (n k : ℕ) (t : Tableau) → HasSize n t → length t.rest ≤ k → ((reduced k t).rest ≡ [] → ⊥) → length (reduced k t).rest ≤ place_of (length (reduced k t).pivots) (reduced k t).rest
ends_stuck n zero t size short some = absurd (some (nil_from_length t.rest (omega (arith, short))))
ends_stuck n (suc k) t size short some =
    by_below (place_of (length t.pivots) t.rest) (length t.rest)
    (λ here. ends_stuck n k (step t) (HasSize-step n t size) (fewer_left t k here short) some)
    (λ past. subst (λ s. length s.rest ≤ place_of (length s.pivots) s.rest) (sym (stuck_stays (suc k) t past)) past)

-- the numbers over the pivots: each pivot times its number is the denominator times the row's entry
pub exact_negative : (k : ℕ) (q : ℤ) → 0 < k → 0 < unsigned_abs q → unsigned_abs q ∣ k → q *ℤ int_div_euclid (neg_ℤ (pos k)) q ≡ neg_ℤ (pos k)
exact_negative zero q some big h = absurd (omega (arith, some))
exact_negative (suc k) (pos zero) some big h = absurd (omega (arith, ints, big))
exact_negative (suc k) (pos (suc n)) some big h = floor_exact (negsuc k) (pos (suc n)) (omega (arith, ints)) h
exact_negative (suc k) (negsuc n) some big h =
    let whole : pos (suc n) *ℤ negsuc (k / suc n) ≡ negsuc k = floor_exact (negsuc k) (pos (suc n)) (omega (arith, ints)) h in
    omega (arith, ints, whole)

number_is : (k : ℕ) (p c : ℤ) → 0 < k → 0 < unsigned_abs p → unsigned_abs (int_div_euclid p (pos (shared p (c ∷ [])))) ∣ k
    → p *ℤ (int_div_euclid c (pos (shared p (c ∷ []))) *ℤ int_div_euclid (neg_ℤ (pos k)) (int_div_euclid p (pos (shared p (c ∷ []))))) ≡ neg_ℤ (pos k) *ℤ c
number_is k p c some big divides =
    let d = shared p (c ∷ []) in
    let q = int_div_euclid p (pos d) in
    let f = int_div_euclid (neg_ℤ (pos k)) q in
    let e = int_div_euclid c (pos d) in
    let law = gcd_of-is_gcd (unsigned_abs p) (gcd_of_all (c ∷ [])) in
    let large : 0 < d = gcd_of-positive (unsigned_abs p) (gcd_of_all (c ∷ [])) big in
    let positive : pos 0 <ℤ pos d = omega (arith, ints, large) in
    let first : pos d *ℤ q ≡ p = floor_exact p (pos d) positive law.0 in
    let third : pos d *ℤ e ≡ c = floor_exact c (pos d) positive (dvd_trans d law.1 ((gcd_of_all-is_gcd (c ∷ [])).divides 0 c (omega arith))) in
    let second : q *ℤ f ≡ neg_ℤ (pos k) = exact_negative k q some (quotient_nonzero p (gcd_of_all (c ∷ [])) big) divides in
    ap₂ (λ (m n : ℤ). m *ℤ n) (sym first) (mul_comm_int e f) ∙ rearranged (pos d) q f e ∙ ap₂ (λ (m n : ℤ). m *ℤ n) second third

one_column : (f : ℕ) (row : Affine) → f < length row.coefs → columns_of f 1 row ≡ entry f row ∷ []
one_column f row h = ap (take 1) (drop-cons row.coefs f (pos 0) h)

numbers_give : (f k known j : ℕ) (rows : List Affine) (i : ℕ) (d : Affine) → 0 < k → k ≡ denominator_from f 1 known j rows → HavePivots j rows → All (λ row. f < length row.coefs) rows → i < length rows
    → entry (j + i) (get_or rows i d) *ℤ get_or (numerators f 1 (neg_ℤ (pos k)) j rows) i (pos 0) ≡ neg_ℤ (pos k) *ℤ entry f (get_or rows i d)
numbers_give f k known j [] i d some is pivots wide here = absurd (omega (arith, here))
numbers_give f k known j (row ∷ rows) zero d some is pivots wide here =
    let column : columns_of f 1 row ≡ entry f row ∷ [] = one_column f row (All-head (λ r. f < length r.coefs) row rows wide) in
    let m = unsigned_abs (int_div_euclid (entry j row) (pos (shared (entry j row) (columns_of f 1 row)))) in
    let divides : m ∣ k = subst (λ n. m ∣ n) (sym is) (dvd_trans m (multiple_of_second known m) (known_divides f 1 (common_multiple known m) (suc j) rows)) in
    let Own : List ℤ → ℤ = λ cs. get_or (over_pivot (neg_ℤ (pos k)) (entry j row) (shared (entry j row) cs) cs ++ numerators f 1 (neg_ℤ (pos k)) (suc j) rows) 0 (pos 0) in
    let Divides : List ℤ → Type 0 = λ cs. unsigned_abs (int_div_euclid (entry j row) (pos (shared (entry j row) cs))) ∣ k in
    let same : j + 0 ≡ j = omega arith in
    ap₂ (λ (n : ℕ) (x : ℤ). entry n row *ℤ x) same (ap Own column)
    ∙ number_is k (entry j row) (entry f row) some pivots.0 (subst Divides column divides)
numbers_give f k known j (row ∷ rows) (suc i) d some is pivots wide here =
    let W : Affine → Type 0 = λ r. f < length r.coefs in
    let m = unsigned_abs (int_div_euclid (entry j row) (pos (shared (entry j row) (columns_of f 1 row)))) in
    let column : columns_of f 1 row ≡ entry f row ∷ [] = one_column f row (All-head W row rows wide) in
    let rest = numerators f 1 (neg_ℤ (pos k)) (suc j) rows in
    let Whole : List ℤ → ℤ = λ cs. get_or (over_pivot (neg_ℤ (pos k)) (entry j row) (shared (entry j row) cs) cs ++ rest) (suc i) (pos 0) in
    let same : j + suc i ≡ suc j + i = omega arith in
    ap₂ (λ (n : ℕ) (x : ℤ). entry n (get_or rows i d) *ℤ x) same (ap Whole column)
    ∙ numbers_give f k (common_multiple known m) (suc j) rows i d some is pivots.1 (All-tail W row rows wide) (omega (arith, here))

-- a scalar product with numbers, one more and zeros
dot-zeros_right : (xs zs : List ℤ) → All (λ z. z ≡ pos 0) zs → dot xs zs ≡ pos 0
dot-zeros_right [] zs h = refl
dot-zeros_right (x ∷ xs) [] h = refl
dot-zeros_right (x ∷ xs) (z ∷ zs) h =
    ap₂ (λ (m n : ℤ). (x *ℤ m) +ℤ n) (All-head (λ y. y ≡ pos 0) z zs h) (dot-zeros_right xs zs (All-tail (λ y. y ≡ pos 0) z zs h)) ∙ omega (arith, ints)

dot-kernel : (f : ℕ) (row : Affine) (nums zs : List ℤ) (k : ℤ) → f < length row.coefs → length nums ≡ f → All (λ z. z ≡ pos 0) zs
    → dot row.coefs (nums ++ k ∷ zs) ≡ dot (take f row.coefs) nums +ℤ (entry f row *ℤ k)
dot-kernel f row nums zs k here count zeros =
    let left = take f row.coefs in
    let after = drop (suc f) row.coefs in
    let split : left ++ (entry f row ∷ after) ≡ row.coefs = ap (λ (xs : List ℤ). left ++ xs) (sym (drop-cons row.coefs f (pos 0) here)) ∙ take-append-drop f row.coefs in
    let wide : length left ≡ length nums = length-take-le f row.coefs (omega (arith, here)) ∙ sym count in
    ap (λ (xs : List ℤ). dot xs (nums ++ k ∷ zs)) (sym split)
    ∙ dot-append left (entry f row ∷ after) nums (k ∷ zs) wide
    ∙ ap (λ (m : ℤ). dot left nums +ℤ ((entry f row *ℤ k) +ℤ m)) (dot-zeros_right after zs zeros) ∙ omega (arith, ints)

pivot_shape_at : (n j : ℕ) (rows : List Affine) (i : ℕ) (d : Affine) → i < length rows → PivotShapes n j rows → (m : ℕ) → m < n → (m ≡ j + i → ⊥) → entry m (get_or rows i d) ≡ pos 0
pivot_shape_at n j [] i d here h m below other = absurd (omega (arith, here))
pivot_shape_at n j (row ∷ rows) zero d here h m below other = h.0.1 m below (λ same. other (omega (arith, same)))
pivot_shape_at n j (row ∷ rows) (suc i) d here h m below other = pivot_shape_at n (suc j) rows i d (omega (arith, here)) h.1 m below (λ same. other (omega (arith, same)))

kernel_solves : (n : ℕ) (t : Tableau) (zs : List ℤ) → HasSize n t → Shape t → length t.pivots < n → length t.rest ≤ place_of (length t.pivots) t.rest → All (λ z. z ≡ pos 0) zs
    → Solves (numerators (length t.pivots) 1 (neg_ℤ (pos (kernel_number t))) 0 t.pivots ++ pos (kernel_number t) ∷ zs) t
kernel_solves n t zs size shape short stuck zeros =
    let f = length t.pivots in
    let k = kernel_number t in
    let K = pos k in
    let nums = numerators f 1 (neg_ℤ K) 0 t.pivots in
    let pivots = shapes_have_pivots f 0 t.pivots shape.pivots in
    let big : 0 < k = let low : 1 ≤ k = denominator_low f 1 1 0 t.pivots pivots (omega arith) in omega (arith, low) in
    let wide : All (λ row. f < length row.coefs) t.pivots = All-weaker (λ row. length row.coefs ≡ n + n) (λ row. f < length row.coefs) (λ row w. omega (arith, w, short)) t.pivots size.pivot_widths in
    let parts : All (λ row. f + 1 ≤ length row.coefs) t.pivots = All-weaker (λ row. length row.coefs ≡ n + n) (λ row. f + 1 ≤ length row.coefs) (λ row w. omega (arith, w, short)) t.pivots size.pivot_widths in
    let count : length nums ≡ f = length-numerators f 1 (neg_ℤ K) 0 t.pivots parts ∙ omega arith in
    record {
      pivots = λ i d here.
          let row = get_or t.pivots i d in
          let inside : f < length row.coefs = wide i d here in
          let left : length (take f row.coefs) ≡ f = length-take-le f row.coefs (omega (arith, inside)) in
          let single : dot (take f row.coefs) nums ≡ get_or (take f row.coefs) i (pos 0) *ℤ get_or nums i (pos 0) =
          dot-single (take f row.coefs) nums i (omega (arith, left, here)) (λ m below other.
          let low : m < f = omega (arith, below, left) in
          get_or-take f row.coefs m (pos 0) low ∙ pivot_shape_at f 0 t.pivots i d here shape.pivots m low (λ same. other (omega (arith, same)))) in
          let given : entry (0 + i) row *ℤ get_or nums i (pos 0) ≡ neg_ℤ K *ℤ entry f row = numbers_give f k 1 0 t.pivots i d big refl pivots wide here in
          let own : get_or (take f row.coefs) i (pos 0) ≡ entry i row = get_or-take f row.coefs i (pos 0) here in
          let place : 0 + i ≡ i = omega arith in
          let first : dot (take f row.coefs) nums ≡ neg_ℤ K *ℤ entry f row =
          single ∙ ap (λ (m : ℤ). m *ℤ get_or nums i (pos 0)) own ∙ ap (λ (m : ℕ). entry m row *ℤ get_or nums i (pos 0)) (sym place) ∙ given in
          dot-kernel f row nums zs K inside count zeros ∙ ap (λ (m : ℤ). m +ℤ (entry f row *ℤ K)) first ∙ omega (arith, ints, neg_mul K (entry f row), mul_comm_int K (entry f row));
      rest = λ i d here.
          let row = get_or t.rest i d in
          let full : length row.coefs ≡ n + n = size.rest_widths i d here in
          let inside : f < length row.coefs = omega (arith, full, short) in
          let left : length (take f row.coefs) ≡ f = length-take-le f row.coefs (omega (arith, inside)) in
          let none : dot (take f row.coefs) nums ≡ pos 0 =
          dot-none (take f row.coefs) nums (λ m below. let low : m < f = omega (arith, below, left) in get_or-take f row.coefs m (pos 0) low ∙ shape.rest i d here m low) in
          let last : entry f row ≡ pos 0 = zero_unless_reached f row (fails_before_first (reaches f) t.rest i d (omega (arith, here, stuck))) in
          dot-kernel f row nums zs K inside count zeros ∙ ap₂ (λ (m e : ℤ). m +ℤ (e *ℤ K)) none last ∙ omega (arith, ints);
    }

-- what solves the start goes to zero
start_gives : (params n k : ℕ) (rows : List Affine) (v zs : List ℤ) → All (HasWidth (params + n)) rows → length v ≡ n → k + length rows ≡ n → All (λ z. z ≡ pos 0) zs
    → All (Vanishes (v ++ zs)) (beside_identity params n k rows) → All (λ x. x ≡ pos 0) (index_image params rows v)
start_gives params n k [] v zs widths wide count zeros h = All-nil (λ x. x ≡ pos 0)
start_gives params n k (row ∷ rows) v zs widths wide count zeros h =
    let left = drop params row.coefs in
    let unit = set (replicate n (pos 0)) k (pos 1) in
    let same : length left ≡ length v = omega (arith, length-drop params row.coefs, All-head (HasWidth (params + n)) row rows widths, wide) in
    let none : dot (left ++ unit) (v ++ zs) ≡ pos 0 = All-head (Vanishes (v ++ zs)) (beside params n k row) (beside_identity params n (suc k) rows) h in
    let first : dot left v ≡ pos 0 = omega (arith, ints, dot-append left unit v zs same, dot-zeros_right unit zs zeros, none) in
    All-cons (λ x. x ≡ pos 0) (dot left v) (index_image params rows v) first
    (start_gives params n (suc k) rows v zs (All-tail (HasWidth (params + n)) row rows widths) wide (omega (arith, count)) zeros
    (All-tail (Vanishes (v ++ zs)) (beside params n k row) (beside_identity params n (suc k) rows) h))

some_number : (k : ℕ) → 1 ≤ k → pos k ≡ pos 0 → ⊥
some_number zero low same = omega (arith, low)
some_number (suc k) low same = omega (arith, ints, same)

pub kernel_goes_to_zero : (params : ℕ) (f : AffineMap) → All (HasWidth (params + length f.rows)) f.rows → ((final params f.rows).rest ≡ [] → ⊥)
    → IsKernel params f (kernel_vector (length f.rows) (final params f.rows))
kernel_goes_to_zero params f widths left =
    let rows = f.rows in
    let n = length rows in
    let t = final params rows in
    let j = length t.pivots in
    let k = kernel_number t in
    let nums = numerators j 1 (neg_ℤ (pos k)) 0 t.pivots in
    let pad = replicate (n - suc j) (pos 0) in
    let zeros = replicate n (pos 0) in
    let v = kernel_vector n t in
    let sound : IsSound n t = final_sound params rows widths in
    let short : j < n = rest_some n t sound.size left in
    let begun : HasSize n (start params rows) = HasSize-start params rows widths in
    let stuck = ends_stuck n n (start params rows) begun (omega (arith, length-beside_identity params n 0 rows)) left in
    let all : All (λ z. z ≡ pos 0) (pad ++ zeros) = All-append (λ z. z ≡ pos 0) pad zeros (All-replicate (λ z. z ≡ pos 0) (n - suc j) (pos 0) refl) (All-replicate (λ z. z ≡ pos 0) n (pos 0) refl) in
    let solved : Solves (nums ++ pos k ∷ (pad ++ zeros)) t = kernel_solves n t (pad ++ zeros) sound.size sound.shape short stuck all in
    let whole : v ++ zeros ≡ nums ++ pos k ∷ (pad ++ zeros) = append_assoc nums (pos k ∷ pad) zeros in
    let first : Solves (v ++ zeros) (start params rows) = reduced_back (v ++ zeros) n n (start params rows) begun (subst (λ x. Solves x t) (sym whole) solved) in
    let parts : All (λ row. j + 1 ≤ length row.coefs) t.pivots = All-weaker (λ row. length row.coefs ≡ n + n) (λ row. j + 1 ≤ length row.coefs) (λ row w. omega (arith, w, short)) t.pivots sound.size.pivot_widths in
    let nums_count : length nums ≡ j = length-numerators j 1 (neg_ℤ (pos k)) 0 t.pivots parts ∙ omega arith in
    let pad_count : length pad ≡ n - suc j = length-replicate (n - suc j) (pos 0) in
    let count : length v ≡ n = length-append nums (pos k ∷ pad) ∙ omega (arith, nums_count, pad_count, short) in
    let low : 1 ≤ k = denominator_low j 1 1 0 t.pivots (final_pivots params rows widths) (omega arith) in
    record {
      length_is = count;
      nonzero = λ none. some_number k low (All-head (λ z. z ≡ pos 0) (pos k) pad (All-back (λ z. z ≡ pos 0) nums (pos k ∷ pad) none));
      image = start_gives params n 0 rows v zeros widths count (omega arith) (All-replicate (λ z. z ≡ pos 0) n (pos 0) refl) first.rest;
    }

pub kernel_refused : (params : ℕ) (f : AffineMap) (vector : List ℤ) → All (HasWidth (params + length f.rows)) f.rows → IsInversion params f (Err (NoInverse (Kernel vector)))
    → IsKernel params f vector
kernel_refused params f vector widths exact = subst (IsKernel params f) (sym exact.2) (kernel_goes_to_zero params f widths exact.1)
