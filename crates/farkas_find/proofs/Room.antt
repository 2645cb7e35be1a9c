-- Where the next stage's rows are met, the rows of a stage leave room for a number in the column that went: each bound
-- from below fits each from above.
use Rattle.std.proofs.Common.{◌≡◌, ◌∙◌, ℕ, ◌*◌, ◌/◌, ◌<◌, ap, refl, sym, subst, arith, Bool, true, false, nat_eq, List, [], length, get_or, ℤ, pos, negsuc, ◌+ℤ◌, ◌*ℤ◌, ◌≤ℤ◌, ◌<ℤ◌, unsigned_abs}
use Rattle.std.specs.List.{All, filter, range_with_len}
use Rattle.std.proofs.lemmas.Int.{ints}
use Rattle.std.proofs.lemmas.Bool.Decides.{nat_tests}
use Rattle.std.proofs.lemmas.Nat.Gcd.{mod-eq-zero_of_dvd}
use Rattle.std.proofs.lemmas.List.Elements.{All-from_get_or}
use Rattle.az_lin.specs.CommonDivisor.{gcd_of}
use Rattle.az_lin.specs.Combination.{scaled_sum}
use Rattle.az_lin.specs.RationalPoint.{value_over}
use Rattle.az_lin.specs.declared.step.RatPoint.{RatPoint}
use Rattle.az_lin.proofs.DivisorLaws.{gcd_of-is_gcd}
use Rattle.az_lin.proofs.Integers.{mul-add_int, add-mul_int, mul_assoc_int, mul_left_comm_int, le-mul_left_int, le_of_mul_left_int, mul-nonneg_int}
use Rattle.farkas_find.specs.declared.numbered.Numbered.{Numbered}
use Rattle.farkas_find.specs.declared.choice.Pair.{Pair}
use Rattle.farkas_find.specs.Tidying.{row_at, coef_at, is_zero}
use Rattle.farkas_find.specs.Combining.{is_positive, is_negative, has_sign, HaveWidth, IsPair, plus_weight, minus_weight, sum_without, combined, combined_at, pairs_of, all_pairs, pairs_with, is_other, partner}
use Rattle.farkas_find.specs.BackSubstitution.{magnitude, cleared}
use Rattle.farkas_find.proofs.Divisor.{gcd_of-positive}
use Rattle.farkas_find.proofs.Values.{Meets, value_over-cleared, value_over-combination, meets_unrounded}
use Rattle.farkas_find.proofs.Sublists.{All-filter_back, All-map_back, All-flat_map_back, All-range_back}
use Prim.Native.Nat.{◌∣◌}

abbrev pub FitTogether : ℕ → RatPoint → Numbered → Numbered → Type 0
FitTogether column point plus minus =
    pos 0 ≤ℤ ((magnitude (coef_at column minus) *ℤ value_over plus.row point) +ℤ (magnitude (coef_at column plus) *ℤ value_over minus.row point))

abbrev pub HasRoom : ℕ → RatPoint → List Numbered → Type 0
HasRoom column point rows =
    All (λ plus. is_positive (coef_at column plus) ≡ true → All (λ minus. is_negative (coef_at column minus) ≡ true → FitTogether column point plus minus) rows) rows

-- the weights of a combination, multiplied by their common divisor
whole_weight : (m h : ℕ) → h ∣ m → pos h *ℤ pos (m / h) ≡ pos m
whole_weight m h divides =
    let whole : h * (m / h) ≡ m = omega (arith, mod-eq-zero_of_dvd h divides) in
    omega (arith, ints, whole)

weights_back : (m n h : ℕ) (u v : ℤ) → 0 < h → h ∣ m → h ∣ n → pos 0 ≤ℤ scaled_sum (pos (m / h)) u (pos (n / h)) v → pos 0 ≤ℤ ((pos m *ℤ u) +ℤ (pos n *ℤ v))
weights_back m n h u v positive left right sum =
    let a = pos (m / h) in
    let b = pos (n / h) in
    let more : (pos h *ℤ pos 0) ≤ℤ (pos h *ℤ ((a *ℤ u) +ℤ (b *ℤ v))) = le-mul_left_int (pos h) (pos 0) ((a *ℤ u) +ℤ (b *ℤ v)) (omega (arith, ints)) sum in
    let one : pos h *ℤ (a *ℤ u) ≡ pos m *ℤ u = sym (mul_assoc_int (pos h) a u) ∙ ap (λ (z : ℤ). z *ℤ u) (whole_weight m h left) in
    let two : pos h *ℤ (b *ℤ v) ≡ pos n *ℤ v = sym (mul_assoc_int (pos h) b v) ∙ ap (λ (z : ℤ). z *ℤ v) (whole_weight n h right) in
    omega (arith, ints, more, one, two, mul-add_int (pos h) (a *ℤ u) (b *ℤ v))

-- what stands in the column cancels
opposite_products : (p q : ℤ) → is_positive p ≡ true → is_negative q ≡ true → (magnitude q *ℤ p) +ℤ (magnitude p *ℤ q) ≡ pos 0
opposite_products (pos p) (negsuc q) above below = omega (arith, ints)
opposite_products (pos p) (pos q) above below = absurd (grind (arith, ints))
opposite_products (negsuc p) q above below = absurd (grind (arith, ints))

cancel_column : (p q n u v : ℤ) → is_positive p ≡ true → is_negative q ≡ true
    → (magnitude q *ℤ (u +ℤ (p *ℤ n))) +ℤ (magnitude p *ℤ (v +ℤ (q *ℤ n))) ≡ (magnitude q *ℤ u) +ℤ (magnitude p *ℤ v)
cancel_column p q n u v above below =
    let none : ((magnitude q *ℤ p) +ℤ (magnitude p *ℤ q)) *ℤ n ≡ pos 0 *ℤ n = ap (λ (z : ℤ). z *ℤ n) (opposite_products p q above below) in
    omega (
      arith,
      ints,
      none,
      add-mul_int (magnitude q *ℤ p) (magnitude p *ℤ q) n,
      mul_assoc_int (magnitude q) p n,
      mul_assoc_int (magnitude p) q n,
      mul-add_int (magnitude q) u (p *ℤ n),
      mul-add_int (magnitude p) v (q *ℤ n),
    )

above_zero : (p : ℤ) → is_positive p ≡ true → 0 < unsigned_abs p
above_zero p above = grind (arith, ints)

fit_combined : (column : ℕ) (point : RatPoint) (plus minus : Numbered) → column < length point.nums → pos 0 <ℤ point.den
    → length plus.row.coefs ≡ length minus.row.coefs → is_positive (coef_at column plus) ≡ true → is_negative (coef_at column minus) ≡ true
    → Meets point (combined column plus minus) → FitTogether column (cleared column point) plus minus
unfolding combined sum_without plus_weight minus_weight
fit_combined column point plus minus inside positive same above below meets =
    let p = coef_at column plus in
    let q = coef_at column minus in
    let n = get_or point.nums column (pos 0) in
    let h = gcd_of (unsigned_abs p) (unsigned_abs q) in
    let divides = gcd_of-is_gcd (unsigned_abs p) (unsigned_abs q) in
    let free = cleared column point in
    let a : ℤ = pos (unsigned_abs q / h) in
    let b : ℤ = pos (unsigned_abs p / h) in
    let at_least : ℤ → Type 0 = λ z. pos 0 ≤ℤ z in
    let sum : pos 0 ≤ℤ scaled_sum a (value_over plus.row point) b (value_over minus.row point) =
    subst at_least (value_over-combination a plus.row b minus.row point same) (meets_unrounded (sum_without column plus minus) point positive meets) in
    let whole : pos 0 ≤ℤ ((magnitude q *ℤ value_over plus.row point) +ℤ (magnitude p *ℤ value_over minus.row point)) =
    weights_back (unsigned_abs q) (unsigned_abs p) h (value_over plus.row point) (value_over minus.row point)
    (gcd_of-positive (unsigned_abs p) (unsigned_abs q) (above_zero p above)) divides.1 divides.0 sum in
    let parted : pos 0 ≤ℤ ((magnitude q *ℤ (value_over plus.row free +ℤ (p *ℤ n))) +ℤ (magnitude p *ℤ (value_over minus.row free +ℤ (q *ℤ n)))) =
    rw (← value_over-cleared plus.row point column inside, ← value_over-cleared minus.row point column inside) whole in
    subst at_least (cancel_column p q n (value_over plus.row free) (value_over minus.row free) above below) parted

-- from the places of rows to the rows
room_at_places : (column : ℕ) (point : RatPoint) (rows : List Numbered)
    → ((i j : ℕ) → i < length rows → j < length rows → is_positive (coef_at column (row_at rows i)) ≡ true → is_negative (coef_at column (row_at rows j)) ≡ true
    → FitTogether column point (row_at rows i) (row_at rows j)) → HasRoom column point rows
room_at_places column point rows fits =
    let none : Numbered = record { row = record { coefs = []; konst = pos 0 }; number = 0 } in
    All-from_get_or (λ plus. is_positive (coef_at column plus) ≡ true → All (λ minus. is_negative (coef_at column minus) ≡ true → FitTogether column point plus minus) rows) rows none
    (λ i here above. All-from_get_or (λ minus. is_negative (coef_at column minus) ≡ true → FitTogether column point (row_at rows i) minus) rows none
    (λ j there below. fits i j here there above below))

pub room_from_all : (column width : ℕ) (point : RatPoint) (rows : List Numbered) → HaveWidth width rows → column < length point.nums → pos 0 <ℤ point.den
    → All (λ pair. Meets point (combined_at column rows pair)) (all_pairs column rows) → HasRoom column (cleared column point) rows
unfolding all_pairs
room_from_all column width point rows widths inside positive meets =
    let none : Numbered = record { row = record { coefs = []; konst = pos 0 }; number = 0 } in
    let here = range_with_len 0 (length rows) in
    let pair : ℕ → ℕ → Pair = λ i j. record { plus = i; minus = j } in
    let Q : ℕ → ℕ → Type 0 = λ i j. Meets point (combined_at column rows (pair i j)) in
    let above : ℕ → Bool = λ place. has_sign true (coef_at column (row_at rows place)) in
    let below : ℕ → Bool = λ place. has_sign false (coef_at column (row_at rows place)) in
    let minuses = filter below here in
    let each : All (λ i. All (λ it. Meets point (combined_at column rows it)) (pairs_of minuses i)) (filter above here) =
    All-flat_map_back (pairs_of minuses) (λ it. Meets point (combined_at column rows it)) (filter above here) meets in
    let at : (i : ℕ) → i < length rows → above i ≡ true → All (λ it. Meets point (combined_at column rows it)) (pairs_of minuses i) =
    All-range_back (length rows) (λ i. above i ≡ true → All (λ it. Meets point (combined_at column rows it)) (pairs_of minuses i))
    (All-filter_back above (λ i. All (λ it. Meets point (combined_at column rows it)) (pairs_of minuses i)) here each) in
    room_at_places column (cleared column point) rows
    (λ i j first second plus minus.
    let all : All (Q i) minuses = All-map_back (pair i) (λ it. Meets point (combined_at column rows it)) minuses (at i first plus) in
    let one : Q i j = All-range_back (length rows) (λ j. below j ≡ true → Q i j) (All-filter_back below (Q i) here all) j second minus in
    fit_combined column point (row_at rows i) (row_at rows j) inside positive (widths i none first ∙ sym (widths j none second)) plus minus one)

-- where two rows are exact negatives, the value of one is the negative of the other's
pub record AreOpposite (rows : List Numbered) (pair : Pair) : Type 0 where
  pub coefs : (column : ℕ) → coef_at column (row_at rows pair.minus) +ℤ coef_at column (row_at rows pair.plus) ≡ pos 0
  pub values : (point : RatPoint) → value_over (row_at rows pair.minus).row point +ℤ value_over (row_at rows pair.plus).row point ≡ pos 0

-- c is the pair's magnitude, and a and b those of a bound from below and of one from above, with their rests u and v
through_pair : (a b c r s u v : ℤ) → pos 0 ≤ℤ a → pos 0 ≤ℤ b → pos 0 <ℤ c → s +ℤ r ≡ pos 0 → pos 0 ≤ℤ ((c *ℤ u) +ℤ (a *ℤ s)) → pos 0 ≤ℤ ((b *ℤ r) +ℤ (c *ℤ v))
    → pos 0 ≤ℤ ((b *ℤ u) +ℤ (a *ℤ v))
through_pair a b c r s u v p q positive zero low high =
    let one : pos 0 ≤ℤ (b *ℤ ((c *ℤ u) +ℤ (a *ℤ s))) = mul-nonneg_int b ((c *ℤ u) +ℤ (a *ℤ s)) q low in
    let two : pos 0 ≤ℤ (a *ℤ ((b *ℤ r) +ℤ (c *ℤ v))) = mul-nonneg_int a ((b *ℤ r) +ℤ (c *ℤ v)) p high in
    let none : (b *ℤ s) +ℤ (b *ℤ r) ≡ pos 0 = omega (arith, ints, mul-add_int b s r, ap (λ (z : ℤ). b *ℤ z) zero) in
    let gone : a *ℤ ((b *ℤ s) +ℤ (b *ℤ r)) ≡ a *ℤ pos 0 = ap (λ (z : ℤ). a *ℤ z) none in
    le_of_mul_left_int c (pos 0) ((b *ℤ u) +ℤ (a *ℤ v)) positive
    (omega (
      arith,
      ints,
      one,
      two,
      gone,
      mul-add_int b (c *ℤ u) (a *ℤ s),
      mul-add_int a (b *ℤ r) (c *ℤ v),
      mul-add_int c (b *ℤ u) (a *ℤ v),
      mul_left_comm_int c b u,
      mul_left_comm_int c a v,
      mul_left_comm_int b a s,
      mul-add_int a (b *ℤ s) (b *ℤ r),
    ))

same_magnitude : (p q : ℤ) → q +ℤ p ≡ pos 0 → magnitude q ≡ magnitude p
same_magnitude (pos p) (pos q) h = ap pos (omega (arith, ints))
same_magnitude (pos p) (negsuc q) h = ap pos (omega (arith, ints))
same_magnitude (negsuc p) (pos q) h = ap pos (omega (arith, ints))
same_magnitude (negsuc p) (negsuc q) h = absurd (omega (arith, ints))

opposite_fit : (c d r s : ℤ) → d ≡ c → s +ℤ r ≡ pos 0 → pos 0 ≤ℤ ((d *ℤ r) +ℤ (c *ℤ s))
opposite_fit c d r s same zero =
    let none : c *ℤ (s +ℤ r) ≡ c *ℤ pos 0 = ap (λ (z : ℤ). c *ℤ z) zero in
    let whole : pos 0 ≤ℤ ((c *ℤ r) +ℤ (c *ℤ s)) = omega (arith, ints, none, mul-add_int c s r) in
    let at_least : ℤ → Type 0 = λ z. pos 0 ≤ℤ ((z *ℤ r) +ℤ (c *ℤ s)) in
    subst at_least (sym same) whole

fit_opposite : (column : ℕ) (point : RatPoint) (rows : List Numbered) (pair : Pair) → AreOpposite rows pair
    → FitTogether column point (row_at rows pair.plus) (row_at rows pair.minus)
fit_opposite column point rows pair opposite =
    let p = coef_at column (row_at rows pair.plus) in
    let q = coef_at column (row_at rows pair.minus) in
    opposite_fit (magnitude p) (magnitude q) (value_over (row_at rows pair.plus).row point) (value_over (row_at rows pair.minus).row point)
    (same_magnitude p q (opposite.coefs column)) (opposite.values point)

fit_through : (column : ℕ) (point : RatPoint) (rows : List Numbered) (pair : Pair) (plus minus : Numbered) → AreOpposite rows pair → IsPair column rows pair
    → FitTogether column point plus (row_at rows pair.minus) → FitTogether column point (row_at rows pair.plus) minus → FitTogether column point plus minus
fit_through column point rows pair plus minus opposite is low high =
    let p = coef_at column (row_at rows pair.plus) in
    let q = coef_at column (row_at rows pair.minus) in
    let r = value_over (row_at rows pair.plus).row point in
    let s = value_over (row_at rows pair.minus).row point in
    let a = magnitude (coef_at column plus) in
    let b = magnitude (coef_at column minus) in
    let u = value_over plus.row point in
    let v = value_over minus.row point in
    let same : magnitude q ≡ magnitude p = same_magnitude p q (opposite.coefs column) in
    let at_least : ℤ → Type 0 = λ c. pos 0 ≤ℤ ((c *ℤ u) +ℤ (a *ℤ s)) in
    let low_too : pos 0 ≤ℤ ((magnitude p *ℤ u) +ℤ (a *ℤ s)) = subst at_least same low in
    let above : 0 < unsigned_abs p = above_zero p is.positive in
    through_pair a b (magnitude p) r s u v (omega (arith, ints)) (omega (arith, ints)) (omega (arith, ints)) (opposite.values point) low_too high

pub nonzero_above : (z : ℤ) → is_positive z ≡ true → is_zero z ≡ false
nonzero_above z above = grind (arith, ints)

pub nonzero_below : (z : ℤ) → is_negative z ≡ true → is_zero z ≡ false
nonzero_below z below = grind (arith, ints)

not_above : (z : ℤ) → is_negative z ≡ true → is_positive z ≡ false
not_above z below = grind (arith, ints)

equal_places : (i j : ℕ) → nat_eq i j ≡ true → i ≡ j
equal_places i j e = grind (arith, nat_tests)

apart_by_sign : (column : ℕ) (rows : List Numbered) (i j : ℕ) → is_positive (coef_at column (row_at rows i)) ≡ true → is_negative (coef_at column (row_at rows j)) ≡ true → nat_eq i j ≡ false
apart_by_sign column rows i j above below =
    (elim (nat_eq i j) as (λ b. nat_eq i j ≡ b → b ≡ false) [
      | true ↦ λ e.
          let P : ℕ → Type 0 = λ k. is_negative (coef_at column (row_at rows k)) ≡ true in
          let too : is_negative (coef_at column (row_at rows i)) ≡ true = subst P (sym (equal_places i j e)) below in
          let not_so : is_positive (coef_at column (row_at rows i)) ≡ false = not_above (coef_at column (row_at rows i)) too in
          absurd (cc)
      | false ↦ λ e. refl
    ]) refl

apart_by_sign_too : (column : ℕ) (rows : List Numbered) (i j : ℕ) → is_negative (coef_at column (row_at rows i)) ≡ true → is_positive (coef_at column (row_at rows j)) ≡ true → nat_eq i j ≡ false
apart_by_sign_too column rows i j below above =
    (elim (nat_eq i j) as (λ b. nat_eq i j ≡ b → b ≡ false) [
      | true ↦ λ e.
          let P : ℕ → Type 0 = λ k. is_positive (coef_at column (row_at rows k)) ≡ true in
          let too : is_positive (coef_at column (row_at rows i)) ≡ true = subst P (sym (equal_places i j e)) above in
          let not_so : is_positive (coef_at column (row_at rows i)) ≡ false = not_above (coef_at column (row_at rows i)) below in
          absurd (cc)
      | false ↦ λ e. refl
    ]) refl

-- the rows that are combined with the pair
other_plus : (column : ℕ) (rows : List Numbered) (pair : Pair) (i : ℕ) → IsPair column rows pair → is_positive (coef_at column (row_at rows i)) ≡ true → nat_eq i pair.plus ≡ false
    → is_other column pair rows i ≡ true
unfolding is_other
other_plus column rows pair i is above different =
    let p = coef_at column (row_at rows i) in
    let nonzero : is_zero p ≡ false = nonzero_above p above in
    let apart : nat_eq i pair.minus ≡ false = apart_by_sign column rows i pair.minus above is.negative in
    rw (nonzero, different, apart) refl

other_minus : (column : ℕ) (rows : List Numbered) (pair : Pair) (j : ℕ) → IsPair column rows pair → is_negative (coef_at column (row_at rows j)) ≡ true → nat_eq j pair.minus ≡ false
    → is_other column pair rows j ≡ true
unfolding is_other
other_minus column rows pair j is below different =
    let q = coef_at column (row_at rows j) in
    let nonzero : is_zero q ≡ false = nonzero_below q below in
    let apart : nat_eq j pair.plus ≡ false = apart_by_sign_too column rows j pair.plus below is.positive in
    rw (nonzero, apart, different) refl

partner_plus : (column : ℕ) (rows : List Numbered) (pair : Pair) (i : ℕ) → is_positive (coef_at column (row_at rows i)) ≡ true
    → partner column pair rows i ≡ record { plus = i; minus = pair.minus }
unfolding partner
partner_plus column rows pair i above = rw above refl

partner_minus : (column : ℕ) (rows : List Numbered) (pair : Pair) (j : ℕ) → is_negative (coef_at column (row_at rows j)) ≡ true
    → partner column pair rows j ≡ record { plus = pair.plus; minus = j }
unfolding partner
partner_minus column rows pair j below =
    let no_plus : is_positive (coef_at column (row_at rows j)) ≡ false = not_above (coef_at column (row_at rows j)) below in
    rw no_plus refl

pub room_from_pair : (column width : ℕ) (point : RatPoint) (rows : List Numbered) (pair : Pair) → HaveWidth width rows → column < length point.nums → pos 0 <ℤ point.den
    → IsPair column rows pair → AreOpposite rows pair
    → All (λ it. Meets point (combined_at column rows it)) (pairs_with column pair rows) → HasRoom column (cleared column point) rows
unfolding pairs_with
room_from_pair column width point rows pair widths inside positive is opposite meets =
    let none : Numbered = record { row = record { coefs = []; konst = pos 0 }; number = 0 } in
    let here = range_with_len 0 (length rows) in
    let free = cleared column point in
    let M : Pair → Type 0 = λ it. Meets point (combined_at column rows it) in
    let each : (i : ℕ) → i < length rows → is_other column pair rows i ≡ true → M (partner column pair rows i) =
    All-range_back (length rows) (λ i. is_other column pair rows i ≡ true → M (partner column pair rows i))
    (All-filter_back (is_other column pair rows) (λ i. M (partner column pair rows i)) here
    (All-map_back (partner column pair rows) M (filter (is_other column pair rows) here) meets)) in
    let low : (i : ℕ) → i < length rows → is_positive (coef_at column (row_at rows i)) ≡ true → FitTogether column free (row_at rows i) (row_at rows pair.minus) =
    λ i first above.
    (elim (nat_eq i pair.plus) as (λ b. nat_eq i pair.plus ≡ b → FitTogether column free (row_at rows i) (row_at rows pair.minus)) [
      | true ↦ λ e.
          let same : pair.plus ≡ i = sym (equal_places i pair.plus e) in
          let F : ℕ → Type 0 = λ k. FitTogether column free (row_at rows k) (row_at rows pair.minus) in
          subst F same (fit_opposite column free rows pair opposite)
      | false ↦ λ e.
          let got : M (record { plus = i; minus = pair.minus }) = subst M (partner_plus column rows pair i above) (each i first (other_plus column rows pair i is above e)) in
          fit_combined column point (row_at rows i) (row_at rows pair.minus) inside positive (widths i none first ∙ sym (widths pair.minus none is.minus_inside)) above is.negative got
    ]) refl in
    let high : (j : ℕ) → j < length rows → is_negative (coef_at column (row_at rows j)) ≡ true → FitTogether column free (row_at rows pair.plus) (row_at rows j) =
    λ j second below.
    (elim (nat_eq j pair.minus) as (λ b. nat_eq j pair.minus ≡ b → FitTogether column free (row_at rows pair.plus) (row_at rows j)) [
      | true ↦ λ e.
          let same : pair.minus ≡ j = sym (equal_places j pair.minus e) in
          let F : ℕ → Type 0 = λ k. FitTogether column free (row_at rows pair.plus) (row_at rows k) in
          subst F same (fit_opposite column free rows pair opposite)
      | false ↦ λ e.
          let got : M (record { plus = pair.plus; minus = j }) = subst M (partner_minus column rows pair j below) (each j second (other_minus column rows pair j is below e)) in
          fit_combined column point (row_at rows pair.plus) (row_at rows j) inside positive (widths pair.plus none is.plus_inside ∙ sym (widths j none second)) is.positive below got
    ]) refl in
    room_at_places column free rows
    (λ i j first second above below. fit_through column free rows pair (row_at rows i) (row_at rows j) opposite is (low i first above) (high j second below))
