-- Each row that a derivation makes is, times a positive number, a sum of multiples of the given rows.
use Rattle.std.proofs.Common.{◌≡◌, ℕ, zero, suc, ◌+◌, ◌-◌, ◌*◌, ◌<◌, ◌⊎◌, inl, inr, ◌∙◌, refl, sym, subst, ap, ap₂, arith, mul-pos, eq-zero-or-pos, List, [], ◌∷◌, ◌++◌, length, map, get_or, All, Result, Ok, Err, OnOk, ℤ, pos, negsuc, ◌+ℤ◌, ◌*ℤ◌, ◌≤ℤ◌, ◌<ℤ◌, unsigned_abs}
use Rattle.std.proofs.lemmas.Int.{ints}
use Rattle.std.proofs.lemmas.List.{get_or_default}
use Rattle.std.proofs.lemmas.Bool.{cases_lt}
use Rattle.std.proofs.lemmas.List.Elements.{All-push, All-head, All-tail}
use Rattle.std.specs.Int.{int_div_euclid}
use Rattle.az_lin.specs.Affine.{Affine}
use Rattle.az_lin.specs.CommonDivisor.{DividesEach}
use Rattle.az_lin.specs.Combination.{scaled_sum, scaled_sums, combination, quotient}
use Rattle.az_lin.specs.Derivation.{IsStep, IsExactStep, IsDerivation, row_at, row_of, rows_after, AllSteps, IsContradiction}
use Rattle.az_lin.specs.declared.step.Step.{Step}
use Rattle.az_lin.proofs.Integers.{mul_comm_int, mul-add_int, add-mul_int, mul_assoc_int, mul_left_comm_int, mul-nonneg_int, floor_exact}
use Rattle.farkas_check.specs.Directions.{coef_at, column_sum, BalancingMultipliers, HasConstantAtLastAlone}
use Rattle.az_lin.proofs.Derivations.{length-rows_after}
use Rattle.farkas_check.proofs.Soundness.{same_width, derivation_from_exact}
use Rattle.farkas_check.specs.Verdict.{IsVerdict}
use Rattle.farkas_check.specs.declared.fault.CheckFault.{CheckFault}
use Prim.Native.Nat.{◌∣◌}

-- ---- plain sums and products
zero_times : (c rest : ℤ) → (pos 0 *ℤ c) +ℤ rest ≡ rest
zero_times c rest = omega (arith, ints)

one_times : (c : ℤ) → (pos 1 *ℤ c) +ℤ pos 0 ≡ c
one_times c = omega (arith, ints)

one_product : (c : ℤ) → pos 1 *ℤ c ≡ c
one_product c = omega (arith, ints)

times_zero : (d : ℤ) → d *ℤ pos 0 ≡ pos 0
times_zero d = omega (arith, ints)

nothing : (p q : ℕ) → pos 0 ≡ scaled_sum (pos p) (pos 0) (pos q) (pos 0)
nothing p q = omega (arith, ints)

zeros : (a b : ℤ) → pos 0 ≡ scaled_sum a (pos 0) b (pos 0)
zeros a b = omega (arith, ints)

regroup : (p x y q u v : ℤ) → ((p *ℤ x) +ℤ (q *ℤ u)) +ℤ ((p *ℤ y) +ℤ (q *ℤ v)) ≡ (p *ℤ (x +ℤ y)) +ℤ (q *ℤ (u +ℤ v))
regroup p x y q u v = omega (arith, ints, mul-add_int p x y, mul-add_int q u v)

mixed_product : (p l q m : ℕ) (c : ℤ) → pos (p * l + q * m) *ℤ c ≡ (pos p *ℤ (pos l *ℤ c)) +ℤ (pos q *ℤ (pos m *ℤ c))
mixed_product p l q m c =
    add-mul_int (pos (p * l)) (pos (q * m)) c ∙ ap₂ (λ (x y : ℤ). x +ℤ y) (mul_assoc_int (pos p) (pos l) c) (mul_assoc_int (pos q) (pos m) c)

four_factors : (s t a x : ℤ) → (s *ℤ t) *ℤ (a *ℤ x) ≡ (a *ℤ t) *ℤ (s *ℤ x)
four_factors s t a x =
    mul_assoc_int s t (a *ℤ x)
    ∙ ap (λ (n : ℤ). s *ℤ n) (mul_left_comm_int t a x)
    ∙ mul_left_comm_int s a (t *ℤ x)
    ∙ ap (λ (n : ℤ). a *ℤ n) (mul_left_comm_int s t x)
    ∙ sym (mul_assoc_int a t (s *ℤ x))

-- the scales of two rows, over the sum of the rows
scaled_apart : (s t a x b y : ℤ) → (s *ℤ t) *ℤ scaled_sum a x b y ≡ scaled_sum (a *ℤ t) (s *ℤ x) (b *ℤ s) (t *ℤ y)
scaled_apart s t a x b y =
    mul-add_int (s *ℤ t) (a *ℤ x) (b *ℤ y)
    ∙ ap₂ (λ (m n : ℤ). m +ℤ n) (four_factors s t a x) (ap (λ (n : ℤ). n *ℤ (b *ℤ y)) (mul_comm_int s t) ∙ four_factors t s b y)

floor-nonneg : (a d : ℤ) → pos 0 <ℤ d → pos 0 ≤ℤ a → pos 0 ≤ℤ int_div_euclid a d
floor-nonneg (pos a) (pos d) p q = omega (arith, ints)
floor-nonneg (negsuc a) d p q = absurd (omega (arith, ints))
floor-nonneg (pos a) (negsuc d) p q = absurd (omega (arith, ints))

unsigned_abs-nonneg : (a : ℤ) → pos 0 ≤ℤ a → a ≡ pos (unsigned_abs a)
unsigned_abs-nonneg (pos a) h = refl
unsigned_abs-nonneg (negsuc a) h = absurd (omega (arith, ints))

-- ---- multipliers: none, those of one row, and of a sum
abbrev none_of : List Affine → List ℕ
none_of [] = []
none_of (row ∷ rows) = 0 ∷ none_of rows

abbrev one_of : ℕ → List Affine → List ℕ
one_of k [] = []
one_of zero (row ∷ rows) = 1 ∷ none_of rows
one_of (suc k) (row ∷ rows) = 0 ∷ one_of k rows

abbrev mixed : ℕ → List ℕ → ℕ → List ℕ → List ℕ
mixed p [] q ms = []
mixed p (l ∷ ls) q [] = []
mixed p (l ∷ ls) q (m ∷ ms) = (p * l + q * m) ∷ mixed p ls q ms

length-none_of : (rows : List Affine) → length (none_of rows) ≡ length rows
length-none_of [] = refl
length-none_of (row ∷ rows) = ap suc (length-none_of rows)

length-one_of : (k : ℕ) (rows : List Affine) → length (one_of k rows) ≡ length rows
length-one_of k [] = refl
length-one_of zero (row ∷ rows) = ap suc (length-none_of rows)
length-one_of (suc k) (row ∷ rows) = ap suc (length-one_of k rows)

length-mixed : (p : ℕ) (ls : List ℕ) (q : ℕ) (ms : List ℕ) → length ls ≡ length ms → length (mixed p ls q ms) ≡ length ls
length-mixed p [] q ms e = refl
length-mixed p (l ∷ ls) q [] e = absurd (omega arith)
length-mixed p (l ∷ ls) q (m ∷ ms) e = ap suc (length-mixed p ls q ms (omega arith))

one_of-itself : (k : ℕ) (rows : List Affine) → k < length rows → get_or (one_of k rows) k 0 ≡ 1
one_of-itself k [] h = absurd (omega arith)
one_of-itself zero (row ∷ rows) h = refl
one_of-itself (suc k) (row ∷ rows) h = one_of-itself k rows (omega arith)

get_or-mixed : (p : ℕ) (ls : List ℕ) (q : ℕ) (ms : List ℕ) (i : ℕ) → length ls ≡ length ms → get_or (mixed p ls q ms) i 0 ≡ p * get_or ls i 0 + q * get_or ms i 0
get_or-mixed p [] q [] i e = omega arith
get_or-mixed p [] q (m ∷ ms) i e = absurd (omega arith)
get_or-mixed p (l ∷ ls) q [] i e = absurd (omega arith)
get_or-mixed p (l ∷ ls) q (m ∷ ms) zero e = refl
get_or-mixed p (l ∷ ls) q (m ∷ ms) (suc i) e = get_or-mixed p ls q ms i (omega arith)

column_sum-none_of : (rows : List Affine) (j : ℕ) → column_sum (none_of rows) rows j ≡ pos 0
column_sum-none_of [] j = refl
column_sum-none_of (row ∷ rows) j = ap (λ (n : ℤ). (pos 0 *ℤ coef_at row j) +ℤ n) (column_sum-none_of rows j) ∙ zero_times (coef_at row j) (pos 0)

column_sum-one_of : (k : ℕ) (rows : List Affine) (j : ℕ) → k < length rows → column_sum (one_of k rows) rows j ≡ coef_at (row_at rows k) j
column_sum-one_of k [] j h = absurd (omega arith)
column_sum-one_of zero (row ∷ rows) j h = ap (λ (n : ℤ). (pos 1 *ℤ coef_at row j) +ℤ n) (column_sum-none_of rows j) ∙ one_times (coef_at row j)
column_sum-one_of (suc k) (row ∷ rows) j h = zero_times (coef_at row j) (column_sum (one_of k rows) rows j) ∙ column_sum-one_of k rows j (omega arith)

column_sum-mixed : (p : ℕ) (ls : List ℕ) (q : ℕ) (ms : List ℕ) (rows : List Affine) (j : ℕ) → length ls ≡ length ms
    → column_sum (mixed p ls q ms) rows j ≡ scaled_sum (pos p) (column_sum ls rows j) (pos q) (column_sum ms rows j)
column_sum-mixed p [] q [] rows j e = nothing p q
column_sum-mixed p [] q (m ∷ ms) rows j e = absurd (omega arith)
column_sum-mixed p (l ∷ ls) q [] rows j e = absurd (omega arith)
column_sum-mixed p (l ∷ ls) q (m ∷ ms) [] j e = nothing p q
column_sum-mixed p (l ∷ ls) q (m ∷ ms) (row ∷ rows) j e =
    ap₂ (λ (x y : ℤ). x +ℤ y) (mixed_product p l q m (coef_at row j)) (column_sum-mixed p ls q ms rows j (omega arith))
    ∙ regroup (pos p) (pos l *ℤ coef_at row j) (column_sum ls rows j) (pos q) (pos m *ℤ coef_at row j) (column_sum ms rows j)

-- ---- the columns of a sum and of its quotient
coef_at-sums : (a : ℤ) (xs : List ℤ) (b : ℤ) (ys : List ℤ) (j : ℕ) → length xs ≡ length ys → get_or (scaled_sums a xs b ys) j (pos 0) ≡ scaled_sum a (get_or xs j (pos 0)) b (get_or ys j (pos 0))
coef_at-sums a [] b [] j e = zeros a b
coef_at-sums a [] b (y ∷ ys) j e = absurd (omega arith)
coef_at-sums a (x ∷ xs) b [] j e = absurd (omega arith)
coef_at-sums a (x ∷ xs) b (y ∷ ys) zero e = refl
coef_at-sums a (x ∷ xs) b (y ∷ ys) (suc j) e = coef_at-sums a xs b ys j (omega arith)

coef_at-quotient : (coefs : List ℤ) (d : ℤ) (j : ℕ) → pos 0 <ℤ d → DividesEach (unsigned_abs d) coefs → d *ℤ get_or (map (λ coef. int_div_euclid coef d) coefs) j (pos 0) ≡ get_or coefs j (pos 0)
coef_at-quotient [] d j positive h = times_zero d
coef_at-quotient (x ∷ xs) d zero positive h = floor_exact x d positive (All-head (λ y. unsigned_abs d ∣ unsigned_abs y) x xs h)
coef_at-quotient (x ∷ xs) d (suc j) positive h = coef_at-quotient xs d j positive (All-tail (λ y. unsigned_abs d ∣ unsigned_abs y) x xs h)

-- ---- a row as a sum of multiples of the given ones
pub record Trace (given : List Affine) (row : Affine) : Type 0 where
  pub scale : ℕ
  pub positive : 0 < scale
  pub numbers : List ℕ
  pub count : length numbers ≡ length given
  pub traced : (column : ℕ) → pos scale *ℤ coef_at row column ≡ column_sum numbers given column
  pub last : (0 < get_or numbers (length given - 1) 0) ⊎ (pos 0 ≤ℤ row.konst)

last_of_given : (given : List Affine) (k : ℕ) → k < length given → (k + 1 < length given → (row_at given k).konst ≡ pos 0)
    → (0 < get_or (one_of k given) (length given - 1) 0) ⊎ (pos 0 ≤ℤ (row_at given k).konst)
last_of_given given k h none =
    elim (cases_lt (k + 1) (length given)) [
      | inl lower ↦ inr (subst (λ (z : ℤ). pos 0 ≤ℤ z) (sym (none lower)) (omega (arith, ints)))
      | inr upper ↦
          let place : length given - 1 ≡ k = omega arith in
          let one : get_or (one_of k given) k 0 ≡ 1 = one_of-itself k given h in
          inl (subst (λ (i : ℕ). 0 < get_or (one_of k given) i 0) (sym place) (omega arith))
    ]

Trace-given : (given : List Affine) (k : ℕ) (d : Affine) → HasConstantAtLastAlone given → k < length given → Trace given (get_or given k d)
Trace-given given k d alone h =
    let empty : Affine = record { coefs = []; konst = pos 0 } in
    let same : row_at given k ≡ get_or given k d = get_or_default given k empty d h in
    subst (Trace given) same (record {
      scale = 1;
      positive = omega arith;
      numbers = one_of k given;
      count = length-one_of k given;
      traced = λ j. one_product (coef_at (row_at given k) j) ∙ sym (column_sum-one_of k given j h);
      last = last_of_given given k h (alone k empty);
    })

no_part : (konst : ℤ) → pos 0 ≤ℤ (pos 0 *ℤ konst)
no_part konst = omega (arith, ints)

-- one side of a sum: either the last row has a part in it, or its constant is not negative
side : (weight scale last : ℕ) (konst : ℤ) → 0 < scale → (0 < last) ⊎ (pos 0 ≤ℤ konst) → (0 < weight * scale * last) ⊎ (pos 0 ≤ℤ (pos weight *ℤ konst))
side weight scale last konst positive (inl h) =
    elim (eq-zero-or-pos weight) [
      | inl none ↦ inr (subst (λ (w : ℕ). pos 0 ≤ℤ (pos w *ℤ konst)) (sym none) (no_part konst))
      | inr some ↦ inl (mul-pos (mul-pos some positive) h)
    ]
side weight scale last konst positive (inr h) = inr (mul-nonneg_int (pos weight) konst (omega (arith, ints)) h)

last_of_sum : (a s l b t m : ℕ) (x y d : ℤ) → pos 0 <ℤ d → (0 < a * t * l) ⊎ (pos 0 ≤ℤ (pos a *ℤ x)) → (0 < b * s * m) ⊎ (pos 0 ≤ℤ (pos b *ℤ y))
    → (0 < a * t * l + b * s * m) ⊎ (pos 0 ≤ℤ int_div_euclid (scaled_sum (pos a) x (pos b) y) d)
last_of_sum a s l b t m x y d positive (inl h) q = inl (omega arith)
last_of_sum a s l b t m x y d positive (inr p) (inl h) = inl (omega arith)
last_of_sum a s l b t m x y d positive (inr p) (inr q) = inr (floor-nonneg (scaled_sum (pos a) x (pos b) y) d positive (omega (arith, ints)))

-- a sum of two rows with a trace has one, and so has its quotient
trace_of_quotient : (given : List Affine) (a : ℕ) (left : Affine) (b : ℕ) (right : Affine) (d : ℕ) → 0 < d → length left.coefs ≡ length right.coefs
    → DividesEach d (combination (pos a) left (pos b) right).coefs → Trace given left → Trace given right → Trace given (quotient (combination (pos a) left (pos b) right) (pos d))
trace_of_quotient given a left b right d positive same divides l r =
    let numbers : List ℕ = mixed (a * r.scale) l.numbers (b * l.scale) r.numbers in
    let sum = combination (pos a) left (pos b) right in
    let as_many : length l.numbers ≡ length r.numbers = l.count ∙ sym r.count in
    let above : pos 0 <ℤ pos d = omega (arith, ints) in
    record {
      scale = (l.scale * r.scale) * d;
      positive = mul-pos (mul-pos l.positive r.positive) positive;
      numbers = numbers;
      count = length-mixed (a * r.scale) l.numbers (b * l.scale) r.numbers as_many ∙ l.count;
      traced = λ j.
          mul_assoc_int (pos (l.scale * r.scale)) (pos d) (coef_at (quotient sum (pos d)) j)
          ∙ ap (λ (n : ℤ). (pos l.scale *ℤ pos r.scale) *ℤ n)
          (coef_at-quotient sum.coefs (pos d) j above divides ∙ coef_at-sums (pos a) left.coefs (pos b) right.coefs j same)
          ∙ scaled_apart (pos l.scale) (pos r.scale) (pos a) (coef_at left j) (pos b) (coef_at right j)
          ∙ ap₂ (λ (m n : ℤ). scaled_sum (pos (a * r.scale)) m (pos (b * l.scale)) n) (l.traced j) (r.traced j)
          ∙ sym (column_sum-mixed (a * r.scale) l.numbers (b * l.scale) r.numbers given j as_many);
      last =
          let P : ℕ → Type 0 = λ n. (0 < n) ⊎ (pos 0 ≤ℤ int_div_euclid sum.konst (pos d)) in
          subst P (sym (get_or-mixed (a * r.scale) l.numbers (b * l.scale) r.numbers (length given - 1) as_many))
          (last_of_sum a l.scale (get_or l.numbers (length given - 1) 0) b r.scale (get_or r.numbers (length given - 1) 0) left.konst right.konst (pos d) above
          (side a r.scale (get_or l.numbers (length given - 1) 0) left.konst r.positive l.last)
          (side b l.scale (get_or r.numbers (length given - 1) 0) right.konst l.positive r.last));
    }

trace_of_signed : (given : List Affine) (a : ℤ) (left : Affine) (b : ℤ) (right : Affine) (d : ℤ) → pos 0 ≤ℤ a → pos 0 ≤ℤ b → pos 0 <ℤ d → length left.coefs ≡ length right.coefs
    → DividesEach (unsigned_abs d) (combination a left b right).coefs → Trace given left → Trace given right → Trace given (quotient (combination a left b right) d)
trace_of_signed given (pos a) left (pos b) right (pos d) p q h same divides l r = trace_of_quotient given a left b right d (omega (arith, ints)) same divides l r
trace_of_signed given (pos a) left (pos b) right (negsuc d) p q h same divides l r = absurd (omega (arith, ints))
trace_of_signed given (pos a) left (negsuc b) right d p q h same divides l r = absurd (omega (arith, ints))
trace_of_signed given (negsuc a) left b right d p q h same divides l r = absurd (omega (arith, ints))

step_trace : (given rows : List Affine) (step : Step) → IsStep rows step → All (Trace given) rows → Trace given (row_of rows step)
step_trace given rows step valid traces =
    let empty : Affine = record { coefs = []; konst = pos 0 } in
    trace_of_signed given step.a (row_at rows step.i) step.b (row_at rows step.j) step.g valid.left_weight valid.right_weight valid.divisor (same_width rows step valid) valid.divides
    (traces step.i empty valid.left_below) (traces step.j empty valid.right_below)

steps_trace : (given rows : List Affine) (steps : List Step) → AllSteps IsStep rows steps → All (Trace given) rows → All (Trace given) (rows_after rows steps)
steps_trace given rows [] all traces = traces
steps_trace given rows (step ∷ steps) all traces =
    steps_trace given (rows ++ row_of rows step ∷ []) steps all.1 (All-push (Trace given) rows (row_of rows step) traces (step_trace given rows step all.0 traces))

coef_at-zero : (coefs : List ℤ) (j : ℕ) → All (λ coef. coef ≡ pos 0) coefs → get_or coefs j (pos 0) ≡ pos 0
coef_at-zero [] j h = refl
coef_at-zero (x ∷ xs) zero h = All-head (λ coef. coef ≡ pos 0) x xs h
coef_at-zero (x ∷ xs) (suc j) h = coef_at-zero xs j (All-tail (λ coef. coef ≡ pos 0) x xs h)

not_negative : {A : Type 0} (k : ℤ) → k <ℤ pos 0 → A ⊎ (pos 0 ≤ℤ k) → A
not_negative k h (inl a) = a
not_negative k h (inr n) = absurd (omega (arith, ints))

balance_of : (given : List Affine) (row : Affine) → IsContradiction row → Trace given row → BalancingMultipliers given
balance_of given row contradiction trace = record {
  numbers = trace.numbers;
  count = trace.count;
  last = not_negative row.konst contradiction.negative trace.last;
  balanced = λ j. sym (trace.traced j) ∙ ap (λ (z : ℤ). pos trace.scale *ℤ z) (coef_at-zero row.coefs j contradiction.constant_alone) ∙ times_zero (pos trace.scale);
}

pub balances : (rows : List Affine) (steps : List Step) → IsDerivation IsStep rows steps → HasConstantAtLastAlone rows → BalancingMultipliers rows
balances rows steps derivation alone =
    let empty : Affine = record { coefs = []; konst = pos 0 } in
    let some : 0 < length steps = derivation.ends.some in
    let place : length rows + length steps - 1 < length (rows_after rows steps) = omega (arith, length-rows_after rows steps) in
    balance_of rows (row_at (rows_after rows steps) (length rows + length steps - 1)) derivation.ends.last
    (steps_trace rows rows steps derivation.steps_good (λ k d h. Trace-given rows k d alone h) (length rows + length steps - 1) empty place)

pub verdict_balances : (rows : List Affine) (steps : List Step) (verdict : Result (Unit {0}) CheckFault) → IsVerdict IsStep rows steps verdict
    → OnOk verdict (HasConstantAtLastAlone rows → BalancingMultipliers rows)
verdict_balances rows steps (Ok _) derivation = balances rows steps derivation
verdict_balances rows steps (Err fault) h = tt

pub exact_verdict_balances : (rows : List Affine) (steps : List Step) (verdict : Result (Unit {0}) CheckFault) → IsVerdict IsExactStep rows steps verdict
    → OnOk verdict (HasConstantAtLastAlone rows → BalancingMultipliers rows)
exact_verdict_balances rows steps (Ok _) derivation = balances rows steps (derivation_from_exact rows steps derivation)
exact_verdict_balances rows steps (Err fault) h = tt
