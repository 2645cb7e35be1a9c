-- The log of the steps: each is valid, and each row of a stage is the row that its number names.
use Rattle.std.proofs.Common.{◌≡◌, ℕ, zero, suc, ◌+◌, ◌<◌, ◌∙◌, sym, subst, subst₂, ap, ap₂, refl, arith, Bool, true, false, cond, List, [], ◌∷◌, ◌++◌, length, map, All, ℤ, pos, ◌≤ℤ◌, ◌<ℤ◌, nat_lt}
use Rattle.std.proofs.Common.{length-append}
use Rattle.std.proofs.lemmas.Int.{ints}
use Rattle.std.proofs.lemmas.List.Elements.{All-nil, All-cons, All-head, All-tail, All-get_or, All-push, All-weaker}
use Rattle.az_lin.specs.Affine.{Affine}
use Rattle.az_lin.specs.Combination.{HasWideEntries, IsWideCombination, combination, quotient}
use Rattle.az_lin.specs.CommonDivisor.{gcd_of_all, DividesEach}
use Rattle.az_lin.specs.Derivation.{IsStep, sum_of, row_of, rows_after, AllSteps}
use Rattle.az_lin.specs.Derivation.{row_at as row_made}
use Rattle.az_lin.specs.declared.step.Step.{Step}
use Rattle.az_lin.proofs.DivisorLaws.{gcd_of_all-is_gcd}
use Rattle.az_lin.proofs.WideSums.{HasWideEntries-quotient, wide_row_of_sums, quotient_by_one}
use Rattle.az_lin.proofs.Derivations.{length-rows_after}
use Rattle.farkas_find.specs.declared.numbered.Numbered.{Numbered}
use Rattle.farkas_find.specs.declared.choice.Pair.{Pair}
use Rattle.farkas_find.specs.Tidying.{row_at, is_rounded, rounded, rounded_rows, rounding_steps}
use Rattle.farkas_find.specs.Combining.{IsPair, Fits, FitsAt, combined, combining_step, sum_without, plus_weight, minus_weight, at_least_one, combined_at, step_at, numbered_from}
use Rattle.farkas_find.proofs.Pruning.{wide_once, wide_onces, once_nothings, row_once, one_divides, row_at-push, row_at-last, row_at-earlier}

-- steps in two parts
pub AllSteps-append : (rows : List Affine) (xs ys : List Step) → AllSteps IsStep rows xs → AllSteps IsStep (rows_after rows xs) ys → AllSteps IsStep rows (xs ++ ys)
AllSteps-append rows [] ys p q = q
AllSteps-append rows (x ∷ xs) ys p q = (p.0, AllSteps-append (rows ++ row_of rows x ∷ []) xs ys p.1 q)

pub rows_after-append : (rows : List Affine) (xs ys : List Step) → rows_after rows (xs ++ ys) ≡ rows_after (rows_after rows xs) ys
rows_after-append rows [] ys = refl
rows_after-append rows (x ∷ xs) ys = rows_after-append (rows ++ row_of rows x ∷ []) xs ys

-- rows that are made stay in range
pub wide_after : (rows : List Affine) (steps : List Step) → All HasWideEntries rows → AllSteps IsStep rows steps → All HasWideEntries (rows_after rows steps)
wide_after rows [] wide good = wide
wide_after rows (step ∷ steps) wide good =
    wide_after (rows ++ row_of rows step ∷ []) steps (All-push HasWideEntries rows (row_of rows step) wide good.0.result_in_range) good.1

-- a row under the number that names it
pub record IsMade (made : List Affine) (it : Numbered) : Type 0 where
  pub below : it.number < length made
  pub row : row_made made it.number ≡ it.row

pub IsMade-push : (made : List Affine) (row : Affine) (it : Numbered) → IsMade made it → IsMade (made ++ row ∷ []) it
IsMade-push made row it is = record {
  below = omega (arith, is.below, length-append made (row ∷ []));
  row = row_at-push made row it.number is.below ∙ is.row;
}

pub IsMade-after : (made : List Affine) (steps : List Step) (it : Numbered) → IsMade made it → IsMade (rows_after made steps) it
IsMade-after made steps it is = record {
  below = omega (arith, is.below, length-rows_after made steps);
  row = row_at-earlier made steps it.number is.below ∙ is.row;
}

IsMade-last : (made : List Affine) (row : Affine) (it : Numbered) → it.number ≡ length made → row ≡ it.row → IsMade (made ++ row ∷ []) it
IsMade-last made row it number same = record {
  below = omega (arith, number, length-append made (row ∷ []));
  row = row_at-last made row it.number (sym number) ∙ same;
}

all_pushed : (made : List Affine) (row : Affine) (rows : List Numbered) → All (IsMade made) rows → All (IsMade (made ++ row ∷ [])) rows
all_pushed made row rows all = All-weaker (IsMade made) (IsMade (made ++ row ∷ [])) (λ it is. IsMade-push made row it is) rows all

pub all_made_after : (made : List Affine) (steps : List Step) (rows : List Numbered) → All (IsMade made) rows → All (IsMade (rows_after made steps)) rows
all_made_after made steps rows all = All-weaker (IsMade made) (IsMade (rows_after made steps)) (λ it is. IsMade-after made steps it is) rows all

-- valid steps that make these rows
pub record Logged (made : List Affine) (steps : List Step) (rows : List Numbered) : Type 0 where
  pub good : AllSteps IsStep made steps
  pub are_made : All (IsMade (rows_after made steps)) rows

-- Rounding.
abbrev step_rounding : ℕ → ℕ → Step
step_rounding number divisor = record { a = pos 1; i = number; b = pos 0; j = number; g = pos divisor }

positive_pos : (n : ℕ) → 0 < n → pos 0 <ℤ pos n
positive_pos n h = omega (arith, ints)

divides_once : (row : Affine) → DividesEach (gcd_of_all row.coefs) (combination (pos 1) row (pos 0) row).coefs
divides_once row = rw (once_nothings row.coefs) (gcd_of_all-is_gcd row.coefs).divides

row_of-rounding : (made : List Affine) (number : ℕ) (row : Affine) → row_made made number ≡ row
    → row_of made (step_rounding number (gcd_of_all row.coefs)) ≡ quotient row (pos (gcd_of_all row.coefs))
row_of-rounding made number row is =
    ap (λ (r : Affine). quotient (combination (pos 1) r (pos 0) r) (pos (gcd_of_all row.coefs))) is
    ∙ ap (λ (sum : Affine). quotient sum (pos (gcd_of_all row.coefs))) (row_once row)

rounding-valid : (made : List Affine) (number : ℕ) (row : Affine) → number < length made → row_made made number ≡ row → HasWideEntries row → 0 < gcd_of_all row.coefs
    → IsStep made (step_rounding number (gcd_of_all row.coefs))
rounding-valid made number row inside is wide above = record {
  left_below = inside;
  right_below = inside;
  left_weight = omega (arith, ints);
  right_weight = omega (arith, ints);
  divisor = positive_pos (gcd_of_all row.coefs) above;
  in_range = rw is (record { coefficients = wide_onces row.coefs wide.coefficients; constant = wide_once row.konst wide.constant });
  divides = rw is (divides_once row);
  result_in_range = subst HasWideEntries (sym (row_of-rounding made number row is)) (HasWideEntries-quotient row.coefs row.konst (pos (gcd_of_all row.coefs)) (positive_pos (gcd_of_all row.coefs) above) wide);
}

above_zero : (n : ℕ) → nat_lt 1 n ≡ true → 0 < n
above_zero zero h = cc
above_zero (suc n) h = omega arith

rounded_is : (row : Affine) → is_rounded row ≡ true → quotient row (pos (gcd_of_all row.coefs)) ≡ rounded row
unfolding rounded
rounded_is row h = rw h refl

wide_made : (made : List Affine) (it : Numbered) → All HasWideEntries made → IsMade made it → HasWideEntries it.row
wide_made made it wide is =
    let empty : Affine = record { coefs = []; konst = pos 0 } in
    subst HasWideEntries is.row (All-get_or HasWideEntries made it.number empty is.below wide)

pub rounding-logged : (made : List Affine) (next : ℕ) (rows : List Numbered) → next ≡ length made → All HasWideEntries made → All (IsMade made) rows
    → Logged made (rounding_steps rows) (rounded_rows next rows)
unfolding rounding_steps rounded_rows
rounding-logged made next [] count wide all = record { good = tt; are_made = All-nil (IsMade made) }
rounding-logged made next (it ∷ rest) count wide all =
    let here : IsMade made it = All-head (IsMade made) it rest all in
    let others : All (IsMade made) rest = All-tail (IsMade made) it rest all in
    let step = step_rounding it.number (gcd_of_all it.row.coefs) in
    let new : Numbered = record { row = rounded it.row; number = next } in
    let plain = rounding-logged made next rest count wide others in
    let stay : is_rounded it.row ≡ false → Logged made (rounding_steps rest) (it ∷ rounded_rows next rest) = λ h. record {
      good = plain.good;
      are_made = All-cons (IsMade (rows_after made (rounding_steps rest))) it (rounded_rows next rest) (IsMade-after made (rounding_steps rest) it here) plain.are_made;
    } in
    let change : is_rounded it.row ≡ true → Logged made (step ∷ rounding_steps rest) (new ∷ rounded_rows (next + 1) rest) = λ h.
    let above : 0 < gcd_of_all it.row.coefs = above_zero (gcd_of_all it.row.coefs) h in
    let valid : IsStep made step = rounding-valid made it.number it.row here.below here.row (wide_made made it wide here) above in
    let row = row_of made step in
    let same : row ≡ rounded it.row = row_of-rounding made it.number it.row here.row ∙ rounded_is it.row h in
    let more = rounding-logged (made ++ row ∷ []) (next + 1) rest (omega (arith, count, length-append made (row ∷ [])))
    (All-push HasWideEntries made row wide valid.result_in_range) (all_pushed made row rest others) in
    record {
      good = (valid, more.good);
      are_made = All-cons (IsMade (rows_after (made ++ row ∷ []) (rounding_steps rest))) new (rounded_rows (next + 1) rest)
          (IsMade-after (made ++ row ∷ []) (rounding_steps rest) new (IsMade-last made row new count same)) more.are_made;
    } in
    go (is_rounded it.row) refl stay change
  where
    go : (b : Bool) → is_rounded it.row ≡ b → (is_rounded it.row ≡ false → Logged made (rounding_steps rest) (it ∷ rounded_rows next rest))
        → (is_rounded it.row ≡ true → Logged made (step_rounding it.number (gcd_of_all it.row.coefs) ∷ rounding_steps rest) (record { row = rounded it.row; number = next } ∷ rounded_rows (next + 1) rest))
        → Logged made (cond (is_rounded it.row) (step_rounding it.number (gcd_of_all it.row.coefs) ∷ rounding_steps rest) (rounding_steps rest))
        (cond (is_rounded it.row) (record { row = rounded it.row; number = next } ∷ rounded_rows (next + 1) rest) (it ∷ rounded_rows next rest))
    go true h stay change = rw h (change h)
    go false h stay change = rw h (stay h)

-- Combining.
pos_nonneg : (n : ℕ) → pos 0 ≤ℤ pos n
pos_nonneg n = omega (arith, ints)

positive_at_least_one : (n : ℕ) → 0 < at_least_one n
positive_at_least_one zero = omega arith
positive_at_least_one (suc n) = omega arith

divides_at_least_one : (zs : List ℤ) (g : ℕ) → DividesEach g zs → DividesEach (at_least_one g) zs
divides_at_least_one zs zero h = one_divides zs
divides_at_least_one zs (suc g) h = h

-- dividing by at least one is rounding
quotient_is_rounded : (row : Affine) (g : ℕ) → g ≡ gcd_of_all row.coefs → quotient row (pos (at_least_one g)) ≡ rounded row
unfolding rounded
quotient_is_rounded row zero e = rw (← e) (sym (quotient_by_one row (pos 1) refl))
quotient_is_rounded row (suc zero) e = rw (← e) (sym (quotient_by_one row (pos 1) refl))
quotient_is_rounded row (suc (suc g)) e =
    let above : nat_lt 1 (suc (suc g)) ≡ true = grind arith in
    rw (← e, above) refl

pub sum_wide : (a : ℤ) (left : Affine) (b : ℤ) (right : Affine) → IsWideCombination a left b right → HasWideEntries (combination a left b right)
sum_wide a left b right wide =
    wide_row_of_sums a left.coefs b right.coefs left.konst right.konst (combination a left b right).coefs (combination a left b right).konst
    (wide.coefficients, refl) (wide.constant, refl)

abbrev sum_by : ℕ → Numbered → Numbered → Affine
sum_by column plus minus = combination (plus_weight column plus minus) plus.row (minus_weight column plus minus) minus.row

abbrev step_by : ℕ → Numbered → Numbered → Step
step_by column plus minus = record {
  a = plus_weight column plus minus;
  i = plus.number;
  b = minus_weight column plus minus;
  j = minus.number;
  g = pos (at_least_one (gcd_of_all (sum_by column plus minus).coefs));
}

sum_of-step_by : (made : List Affine) (column : ℕ) (plus minus : Numbered) → IsMade made plus → IsMade made minus → sum_of made (step_by column plus minus) ≡ sum_by column plus minus
sum_of-step_by made column plus minus p q =
    ap₂ (λ (l r : Affine). combination (plus_weight column plus minus) l (minus_weight column plus minus) r) p.row q.row

plus_nonneg : (column : ℕ) (plus minus : Numbered) → pos 0 ≤ℤ plus_weight column plus minus
unfolding plus_weight
plus_nonneg column plus minus = pos_nonneg _

minus_nonneg : (column : ℕ) (plus minus : Numbered) → pos 0 ≤ℤ minus_weight column plus minus
unfolding minus_weight
minus_nonneg column plus minus = pos_nonneg _

step_by-valid : (made : List Affine) (column : ℕ) (plus minus : Numbered) → IsMade made plus → IsMade made minus
    → IsWideCombination (plus_weight column plus minus) plus.row (minus_weight column plus minus) minus.row → IsStep made (step_by column plus minus)
step_by-valid made column plus minus p q wide =
    let sum = sum_by column plus minus in
    let same = sum_of-step_by made column plus minus p q in
    let positive : pos 0 <ℤ pos (at_least_one (gcd_of_all sum.coefs)) = positive_pos (at_least_one (gcd_of_all sum.coefs)) (positive_at_least_one (gcd_of_all sum.coefs)) in
    let P : Affine → Affine → Type 0 = λ l r. IsWideCombination (plus_weight column plus minus) l (minus_weight column plus minus) r in
    let Q : Affine → Type 0 = λ s. DividesEach (at_least_one (gcd_of_all sum.coefs)) s.coefs in
    let R : Affine → Type 0 = λ s. HasWideEntries (quotient s (pos (at_least_one (gcd_of_all sum.coefs)))) in
    record {
      left_below = p.below;
      right_below = q.below;
      left_weight = plus_nonneg column plus minus;
      right_weight = minus_nonneg column plus minus;
      divisor = positive;
      in_range = subst₂ P (sym p.row) (sym q.row) wide;
      divides = subst Q (sym same) (divides_at_least_one sum.coefs (gcd_of_all sum.coefs) (gcd_of_all-is_gcd sum.coefs).divides);
      result_in_range = subst R (sym same) (HasWideEntries-quotient sum.coefs sum.konst (pos (at_least_one (gcd_of_all sum.coefs))) positive (sum_wide (plus_weight column plus minus) plus.row (minus_weight column plus minus) minus.row wide));
    }

row_of-step_by : (made : List Affine) (column : ℕ) (plus minus : Numbered) → IsMade made plus → IsMade made minus
    → row_of made (step_by column plus minus) ≡ rounded (sum_by column plus minus)
row_of-step_by made column plus minus p q =
    ap (λ (s : Affine). quotient s (pos (at_least_one (gcd_of_all (sum_by column plus minus).coefs)))) (sum_of-step_by made column plus minus p q)
    ∙ quotient_is_rounded (sum_by column plus minus) (gcd_of_all (sum_by column plus minus).coefs) refl

combining-valid : (made : List Affine) (column : ℕ) (plus minus : Numbered) → IsMade made plus → IsMade made minus → Fits column plus minus
    → IsStep made (combining_step column plus minus)
unfolding combining_step Fits sum_without
combining-valid made column plus minus p q fits = step_by-valid made column plus minus p q fits

row_of-combining : (made : List Affine) (column : ℕ) (plus minus : Numbered) → IsMade made plus → IsMade made minus
    → row_of made (combining_step column plus minus) ≡ combined column plus minus
unfolding combining_step combined sum_without
row_of-combining made column plus minus p q = row_of-step_by made column plus minus p q

pub combining-logged : (made : List Affine) (next column : ℕ) (rows : List Numbered) (pairs : List Pair) → next ≡ length made → All (IsMade made) rows
    → All (IsPair column rows) pairs → All (FitsAt column rows) pairs
    → Logged made (map (step_at column rows) pairs) (numbered_from next (map (combined_at column rows) pairs))
unfolding numbered_from
combining-logged made next column rows [] count all are_pairs fit = record { good = tt; are_made = All-nil (IsMade made) }
combining-logged made next column rows (pair ∷ pairs) count all are_pairs fit =
    let is : IsPair column rows pair = All-head (IsPair column rows) pair pairs are_pairs in
    let nothing : Numbered = record { row = record { coefs = []; konst = pos 0 }; number = 0 } in
    let p : IsMade made (row_at rows pair.plus) = All-get_or (IsMade made) rows pair.plus nothing is.plus_inside all in
    let q : IsMade made (row_at rows pair.minus) = All-get_or (IsMade made) rows pair.minus nothing is.minus_inside all in
    let step = step_at column rows pair in
    let valid : IsStep made step = combining-valid made column (row_at rows pair.plus) (row_at rows pair.minus) p q (All-head (FitsAt column rows) pair pairs fit) in
    let row = row_of made step in
    let same : row ≡ combined_at column rows pair = row_of-combining made column (row_at rows pair.plus) (row_at rows pair.minus) p q in
    let new : Numbered = record { row = combined_at column rows pair; number = next } in
    let more = combining-logged (made ++ row ∷ []) (next + 1) column rows pairs (omega (arith, count, length-append made (row ∷ [])))
    (all_pushed made row rows all) (All-tail (IsPair column rows) pair pairs are_pairs) (All-tail (FitsAt column rows) pair pairs fit) in
    record {
      good = (valid, more.good);
      are_made = All-cons (IsMade (rows_after (made ++ row ∷ []) (map (step_at column rows) pairs))) new (numbered_from (next + 1) (map (combined_at column rows) pairs))
          (IsMade-after (made ++ row ∷ []) (map (step_at column rows) pairs) new (IsMade-last made row new count same)) more.are_made;
    }
