-- A column that no row has stays so, and the column that goes is one that no row of the next stage has.
use Rattle.std.proofs.Common.{◌≡◌, ℕ, zero, suc, ◌*◌, ◌/◌, ◌<◌, ap, refl, sym, ◌∙◌, subst, arith, true, List, [], ◌∷◌, length, map, get_or, ℤ, pos, negsuc, unsigned_abs}
use Rattle.std.specs.List.{All, filter}
use Rattle.std.specs.Int.{int_div_euclid}
use Rattle.std.proofs.Math.ListN.{get_or-map}
use Rattle.std.proofs.Math.Nat.{zero-div}
use Rattle.std.proofs.lemmas.Int.{ints}
use Rattle.std.proofs.lemmas.Bool.Decides.{Decides-int_eq}
use Rattle.std.proofs.lemmas.Nat.Gcd.{mod-eq-zero_of_dvd}
use Rattle.std.proofs.lemmas.List.Elements.{filter_passes}
use Rattle.az_lin.specs.Affine.{Affine}
use Rattle.az_lin.specs.Combination.{scaled_sum, scaled_sums}
use Rattle.az_lin.specs.CommonDivisor.{gcd_of, gcd_of_all}
use Rattle.az_lin.proofs.DivisorLaws.{gcd_of-is_gcd}
use Rattle.farkas_find.specs.declared.numbered.Numbered.{Numbered}
use Rattle.farkas_find.specs.declared.choice.Pair.{Pair}
use Rattle.farkas_find.specs.declared.choice.Choice.{Choice}
use Rattle.farkas_find.specs.Tidying.{row_at, coef_at, is_zero, tidied}
use Rattle.farkas_find.specs.Combining.{HaveWidth, IsPair, is_positive, is_negative, plus_weight, minus_weight, sum_without, combined}
use Rattle.farkas_find.specs.Stages.{rows_without, pairs_for, next_rows}
use Rattle.farkas_find.proofs.Divisor.{gcd_of-positive}
use Rattle.farkas_find.proofs.Keeping.{KeptByRounding, kept_by_rounded, Every-tidied, Every-next_rows, Every-without}
use Rattle.farkas_find.proofs.Chosen.{IsGone}
use Prim.Native.Nat.{◌∣◌}

abbrev Lacks : ℕ → Affine → Type 0
Lacks column row = get_or row.coefs column (pos 0) ≡ pos 0

lacks-kept : (column : ℕ) → KeptByRounding (Lacks column)
lacks-kept column row above lacks =
    let g : ℕ = gcd_of_all row.coefs in
    let f : ℤ → ℤ = λ coef. int_div_euclid coef (pos g) in
    let none : f (pos 0) ≡ pos 0 = ap pos (zero-div g) in
    let mapped : get_or (map f row.coefs) column (f (pos 0)) ≡ pos 0 = get_or-map f row.coefs column (pos 0) ∙ ap f lacks ∙ none in
    subst (λ (d : ℤ). get_or (map f row.coefs) column d ≡ pos 0) none mapped

pub IsGone-tidied : (column next : ℕ) (rows : List Numbered) → IsGone column rows → IsGone column (tidied next rows)
IsGone-tidied column next rows gone = Every-tidied (Lacks column) (lacks-kept column) next rows gone

scaled_sums-at : (a : ℤ) (xs : List ℤ) (b : ℤ) (ys : List ℤ) → length xs ≡ length ys → (i : ℕ)
    → get_or (scaled_sums a xs b ys) i (pos 0) ≡ scaled_sum a (get_or xs i (pos 0)) b (get_or ys i (pos 0))
scaled_sums-at a [] b [] same i = omega (arith, ints)
scaled_sums-at a [] b (y ∷ ys) same i = absurd (omega arith)
scaled_sums-at a (x ∷ xs) b [] same i = absurd (omega arith)
scaled_sums-at a (x ∷ xs) b (y ∷ ys) same zero = refl
scaled_sums-at a (x ∷ xs) b (y ∷ ys) same (suc i) = scaled_sums-at a xs b ys (omega arith) i

none_of_sum : (a x b y : ℤ) → x ≡ pos 0 → y ≡ pos 0 → scaled_sum a x b y ≡ pos 0
none_of_sum a x b y p q = rw (p, q) (omega (arith, ints))

lacks-combined : (column other : ℕ) (plus minus : Numbered) → length plus.row.coefs ≡ length minus.row.coefs → Lacks column plus.row → Lacks column minus.row
    → Lacks column (combined other plus minus)
unfolding combined sum_without
lacks-combined column other plus minus same p m =
    let a : ℤ = plus_weight other plus minus in
    let b : ℤ = minus_weight other plus minus in
    kept_by_rounded (Lacks column) (lacks-kept column) (sum_without other plus minus)
    (scaled_sums-at a plus.row.coefs b minus.row.coefs same column ∙ none_of_sum a (coef_at column plus) b (coef_at column minus) p m)

-- the weights cancel in the column
regroup : (a b h : ℕ) → a * (h * b) ≡ b * (h * a)
regroup a b h = omega arith

crossed : (m n h : ℕ) → 0 < h → h ∣ m → h ∣ n → (n / h) * m ≡ (m / h) * n
crossed m n h positive p q =
    let whole_m : h * (m / h) ≡ m = omega (arith, mod-eq-zero_of_dvd h p) in
    let whole_n : h * (n / h) ≡ n = omega (arith, mod-eq-zero_of_dvd h q) in
    ap (λ (k : ℕ). (n / h) * k) (sym whole_m) ∙ regroup (n / h) (m / h) h ∙ ap (λ (k : ℕ). (m / h) * k) whole_n

cancels : (p q : ℤ) (x y : ℕ) → is_positive p ≡ true → is_negative q ≡ true → y * unsigned_abs p ≡ x * unsigned_abs q → scaled_sum (pos y) p (pos x) q ≡ pos 0
cancels (pos p) (negsuc q) x y above below same = omega (arith, ints)
cancels (pos p) (pos q) x y above below same = absurd (grind (arith, ints))
cancels (negsuc p) q x y above below same = absurd (grind (arith, ints))

magnitude_positive : (p : ℤ) → is_positive p ≡ true → 0 < unsigned_abs p
magnitude_positive p above = grind (arith, ints)

cancelled : (column : ℕ) (plus minus : Numbered) → length plus.row.coefs ≡ length minus.row.coefs
    → is_positive (coef_at column plus) ≡ true → is_negative (coef_at column minus) ≡ true → Lacks column (combined column plus minus)
unfolding combined sum_without plus_weight minus_weight
cancelled column plus minus same above below =
    let p : ℤ = coef_at column plus in
    let q : ℤ = coef_at column minus in
    let h : ℕ = gcd_of (unsigned_abs p) (unsigned_abs q) in
    let divides = gcd_of-is_gcd (unsigned_abs p) (unsigned_abs q) in
    let positive : 0 < h = gcd_of-positive (unsigned_abs p) (unsigned_abs q) (magnitude_positive p above) in
    let equal : (unsigned_abs q / h) * unsigned_abs p ≡ (unsigned_abs p / h) * unsigned_abs q = crossed (unsigned_abs p) (unsigned_abs q) h positive divides.0 divides.1 in
    kept_by_rounded (Lacks column) (lacks-kept column) (sum_without column plus minus)
    (scaled_sums-at (plus_weight column plus minus) plus.row.coefs (minus_weight column plus minus) minus.row.coefs same column
    ∙ cancels p q (unsigned_abs p / h) (unsigned_abs q / h) above below equal)

pub IsGone-next_rows : (width column : ℕ) (choice : Choice) (next : ℕ) (rows : List Numbered) → HaveWidth width rows → All (IsPair choice.column rows) (pairs_for choice rows)
    → IsGone column rows → IsGone column (next_rows choice next rows)
IsGone-next_rows width column choice next rows widths pairs gone =
    let nothing : Numbered = record { row = record { coefs = []; konst = pos 0 }; number = 0 } in
    Every-next_rows (Lacks column) choice next rows (Every-without (Lacks column) choice.column rows gone)
    (λ k d inside.
    let pair : Pair = get_or (pairs_for choice rows) k d in
    let is : IsPair choice.column rows pair = pairs k d inside in
    lacks-combined column choice.column (row_at rows pair.plus) (row_at rows pair.minus)
    (widths pair.plus nothing is.plus_inside ∙ sym (widths pair.minus nothing is.minus_inside))
    (gone pair.plus nothing is.plus_inside) (gone pair.minus nothing is.minus_inside))

gone_without : (column : ℕ) (rows : List Numbered) → IsGone column (rows_without column rows)
unfolding rows_without
gone_without column rows k d inside =
    (Decides-int_eq (coef_at column (get_or (filter (λ it. is_zero (coef_at column it)) rows) k d)) (pos 0)).0 (filter_passes (λ it. is_zero (coef_at column it)) rows k d inside)

pub IsGone-chosen : (width : ℕ) (choice : Choice) (next : ℕ) (rows : List Numbered) → HaveWidth width rows → All (IsPair choice.column rows) (pairs_for choice rows)
    → IsGone choice.column (next_rows choice next rows)
IsGone-chosen width choice next rows widths pairs =
    let nothing : Numbered = record { row = record { coefs = []; konst = pos 0 }; number = 0 } in
    Every-next_rows (Lacks choice.column) choice next rows (gone_without choice.column rows)
    (λ k d inside.
    let pair : Pair = get_or (pairs_for choice rows) k d in
    let is : IsPair choice.column rows pair = pairs k d inside in
    cancelled choice.column (row_at rows pair.plus) (row_at rows pair.minus)
    (widths pair.plus nothing is.plus_inside ∙ sym (widths pair.minus nothing is.minus_inside)) is.positive is.negative)
