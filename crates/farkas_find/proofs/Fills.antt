-- The number that a column takes makes every row of its stage hold, where the rows leave room for one.
use Rattle.std.proofs.Common.{◌≡◌, ℕ, zero, suc, ◌<◌, ap, refl, sym, subst, arith, Bool, true, false, not, List, [], length, map, get_or, Option, Some, None, MatchOption, ℤ, pos, negsuc, ◌+ℤ◌, ◌*ℤ◌, ◌≤ℤ◌, ◌<ℤ◌, neg_ℤ}
use Rattle.std.specs.List.{All, filter, fold}
use Rattle.std.specs.Option.{option_or}
use Rattle.std.proofs.lemmas.Int.{ints}
use Rattle.std.proofs.lemmas.List.{length-set}
use Rattle.std.proofs.lemmas.List.Elements.{All-nil, All-map, All-filter, All-same, filter_passes}
use Rattle.az_lin.specs.RationalPoint.{value_over}
use Rattle.az_lin.specs.declared.step.RatPoint.{RatPoint}
use Rattle.az_lin.proofs.Integers.{mul_comm_int, mul-add_int, add-mul_int, mul-nonneg_int}
use Rattle.farkas_find.specs.declared.numbered.Numbered.{Numbered}
use Rattle.farkas_find.specs.declared.bound.Bound.{Bound}
use Rattle.farkas_find.specs.declared.trail.Eliminated.{Eliminated}
use Rattle.farkas_find.specs.Tidying.{coef_at, is_zero}
use Rattle.farkas_find.specs.Combining.{is_positive, is_negative, has_sign}
use Rattle.farkas_find.specs.Stages.{rows_with}
use Rattle.farkas_find.specs.BackSubstitution.{magnitude, cleared, bound_of, bounds_at, from_side, tighter_of, tightest, taken, factor_at, number_at, placed}
use Rattle.farkas_find.proofs.Bounds.{nonzero_from_sign}
use Rattle.farkas_find.proofs.Values.{Meets, meets_placed, denominator_of_placed, get_or-cleared, value_over-cleared}
use Rattle.farkas_find.proofs.Room.{HasRoom, nonzero_above, nonzero_below}
use Rattle.farkas_find.proofs.Sublists.{All-filter_back, All-map_back}
use Rattle.farkas_find.proofs.Taken.{IsAsTight, IsProper, tightest_is}

abbrev pub gone_with : ℕ → List Numbered → Eliminated
gone_with column rows = record { column = column; rows = rows_with column rows }

has_it : (below : Bool) (z : ℤ) → has_sign below z ≡ true → not (is_zero z) ≡ true
has_it true z sign = ap not (nonzero_above z sign)
has_it false z sign = ap not (nonzero_below z sign)

-- the bounds of a side, and the rows that give them
side_back : (column : ℕ) (point : RatPoint) (rows : List Numbered) (below : Bool) (Q : Bound → Type 0) → All Q (from_side below (bounds_at (gone_with column rows) point))
    → All (λ it. has_sign below (coef_at column it) ≡ true → Q (bound_of column point it)) rows
unfolding bounds_at rows_with
side_back column point rows below Q all =
    let f : Numbered → Bound = bound_of column point in
    let has : Numbered → Bool = λ it. not (is_zero (coef_at column it)) in
    let sign : Bound → Bool = λ bound. has_sign below bound.coef in
    let back = All-filter_back has (λ it. sign (f it) ≡ true → Q (f it)) rows
    (All-map_back f (λ bound. sign bound ≡ true → Q bound) (filter has rows) (All-filter_back sign Q (map f (filter has rows)) all)) in
    λ k d inside h. back k d inside (has_it below (coef_at column (get_or rows k d)) h) h

side_forth : (column : ℕ) (point : RatPoint) (rows : List Numbered) (below : Bool) (P : Bound → Type 0)
    → All (λ it. has_sign below (coef_at column it) ≡ true → P (bound_of column point it)) rows → All (λ bound. P bound × IsProper bound) (from_side below (bounds_at (gone_with column rows) point))
unfolding bounds_at rows_with
side_forth column point rows below P all =
    let f : Numbered → Bound = bound_of column point in
    let has : Numbered → Bool = λ it. not (is_zero (coef_at column it)) in
    let sign : Bound → Bool = λ bound. has_sign below bound.coef in
    let Q : Bound → Type 0 = λ bound. sign bound ≡ true → P bound in
    let bounds = map f (filter has rows) in
    let forth : All Q (filter sign bounds) = All-filter sign Q bounds (All-map Q f (filter has rows) (All-filter has (λ it. Q (f it)) rows all)) in
    λ k d inside.
    let passes : sign (get_or (filter sign bounds) k d) ≡ true = filter_passes sign bounds k d inside in
    (forth k d inside passes, nonzero_from_sign below (get_or (filter sign bounds) k d).coef passes)

side_is : (column : ℕ) (point : RatPoint) (rows : List Numbered) (below : Bool) (P : Bound → Type 0)
    → All (λ it. has_sign below (coef_at column it) ≡ true → P (bound_of column point it)) rows
    → MatchOption (tightest below (bounds_at (gone_with column rows) point)) (All (λ it. has_sign below (coef_at column it) ≡ true → ⊥) rows)
    (λ bound. P bound × All (λ it. has_sign below (coef_at column it) ≡ true → IsAsTight bound (bound_of column point it)) rows)
unfolding tightest
side_is column point rows below P all =
    let bounds = from_side below (bounds_at (gone_with column rows) point) in
    (elim (fold tighter_of None bounds) as (λ r. MatchOption r (bounds ≡ []) (λ bound. P bound × All (IsAsTight bound) bounds)
    → MatchOption r (All (λ it. has_sign below (coef_at column it) ≡ true → ⊥) rows)
    (λ bound. P bound × All (λ it. has_sign below (coef_at column it) ≡ true → IsAsTight bound (bound_of column point it)) rows)) [
      | None ↦ λ none. side_back column point rows below (λ bound. ⊥) (All-same (λ bound. ⊥) bounds [] none (All-nil (λ bound. ⊥)))
      | Some bound ↦ λ some. (some.0, side_back column point rows below (IsAsTight bound) some.1)
    ]) (tightest_is P bounds (side_forth column point rows below P all))

-- a row holds at the number of a bound, by its coefficient in the column and its rest
abbrev Suits : Option Bound → ℤ → ℤ → Type 0
Suits bound coef rest = pos 0 ≤ℤ ((factor_at bound *ℤ rest) +ℤ (coef *ℤ number_at bound))

by_sign : (z : ℤ) (A : Type 0) → (is_positive z ≡ true → A) → (is_negative z ≡ true → A) → (is_zero z ≡ true → A) → A
by_sign (pos zero) A above below none = none refl
by_sign (pos (suc n)) A above below none = let p : is_positive (pos (suc n)) ≡ true = grind (arith, ints) in above p
by_sign (negsuc n) A above below none = below refl

zero_is : (z : ℤ) → is_zero z ≡ true → z ≡ pos 0
zero_is z h = grind (arith, ints)

above_is : (z : ℤ) → is_positive z ≡ true → z ≡ magnitude z
above_is (pos n) h = refl
above_is (negsuc n) h = absurd (grind (arith, ints))

below_is : (z : ℤ) → is_negative z ≡ true → z +ℤ magnitude z ≡ pos 0
below_is (pos n) h = absurd (grind (arith, ints))
below_is (negsuc n) h = omega (arith, ints)

suits_none : (bound : Option Bound) (coef rest : ℤ) → pos 0 <ℤ factor_at bound → is_zero coef ≡ true → pos 0 ≤ℤ rest → Suits bound coef rest
suits_none bound coef rest above none holds =
    let nothing : coef *ℤ number_at bound ≡ pos 0 *ℤ number_at bound = ap (λ (z : ℤ). z *ℤ number_at bound) (zero_is coef none) in
    let product : pos 0 ≤ℤ (factor_at bound *ℤ rest) = mul-nonneg_int (factor_at bound) rest (omega (arith, ints)) holds in
    omega (arith, ints, nothing, product)

no_sum : (e : ℤ) → neg_ℤ e +ℤ e ≡ pos 0
no_sum e = omega (arith, ints)

negated_product : (m e : ℤ) → (m *ℤ neg_ℤ e) +ℤ (m *ℤ e) ≡ pos 0
negated_product m e =
    let none : m *ℤ (neg_ℤ e +ℤ e) ≡ m *ℤ pos 0 = ap (λ (z : ℤ). m *ℤ z) (no_sum e) in
    omega (arith, ints, none, mul-add_int m (neg_ℤ e) e)

low_against_low : (c m e f : ℤ) → (e *ℤ m) ≤ℤ (f *ℤ c) → pos 0 ≤ℤ ((c *ℤ f) +ℤ (m *ℤ neg_ℤ e))
low_against_low c m e f tight = omega (arith, ints, mul_comm_int e m, mul_comm_int f c, negated_product m e)

low_against_high : (c d m e f : ℤ) → d +ℤ m ≡ pos 0 → pos 0 ≤ℤ ((m *ℤ e) +ℤ (c *ℤ f)) → pos 0 ≤ℤ ((c *ℤ f) +ℤ (d *ℤ neg_ℤ e))
low_against_high c d m e f opposite fits =
    let none : (d +ℤ m) *ℤ neg_ℤ e ≡ pos 0 *ℤ neg_ℤ e = ap (λ (z : ℤ). z *ℤ neg_ℤ e) opposite in
    omega (arith, ints, none, add-mul_int d m (neg_ℤ e), negated_product m e)

high_against_high : (c d m e f : ℤ) → d +ℤ m ≡ pos 0 → (e *ℤ m) ≤ℤ (f *ℤ c) → pos 0 ≤ℤ ((c *ℤ f) +ℤ (d *ℤ e))
high_against_high c d m e f opposite tight =
    let none : (d +ℤ m) *ℤ e ≡ pos 0 *ℤ e = ap (λ (z : ℤ). z *ℤ e) opposite in
    omega (arith, ints, none, add-mul_int d m e, mul_comm_int e m, mul_comm_int f c)

number_below : (bound : Bound) → is_positive bound.coef ≡ true → number_at (Some bound) ≡ neg_ℤ bound.rest
number_below bound above = rw above refl

not_plus : (z : ℤ) → is_negative z ≡ true → is_positive z ≡ false
not_plus z below = grind (arith, ints)

number_above : (bound : Bound) → is_negative bound.coef ≡ true → number_at (Some bound) ≡ bound.rest
number_above bound below =
    let no_plus : is_positive bound.coef ≡ false = not_plus bound.coef below in
    rw no_plus refl

suits_low : (bound : Bound) (coef rest : ℤ) → is_positive bound.coef ≡ true → is_positive coef ≡ true
    → (bound.rest *ℤ magnitude coef) ≤ℤ (rest *ℤ magnitude bound.coef) → Suits (Some bound) coef rest
suits_low bound coef rest above plus tight =
    let S : ℤ → ℤ → Type 0 = λ z n. pos 0 ≤ℤ ((magnitude bound.coef *ℤ rest) +ℤ (z *ℤ n)) in
    let got : S (magnitude coef) (neg_ℤ bound.rest) = low_against_low (magnitude bound.coef) (magnitude coef) bound.rest rest tight in
    subst (S coef) (sym (number_below bound above)) (subst (λ z. S z (neg_ℤ bound.rest)) (sym (above_is coef plus)) got)

suits_across : (bound : Bound) (coef rest : ℤ) → is_positive bound.coef ≡ true → is_negative coef ≡ true
    → pos 0 ≤ℤ ((magnitude coef *ℤ bound.rest) +ℤ (magnitude bound.coef *ℤ rest)) → Suits (Some bound) coef rest
suits_across bound coef rest above minus fits =
    let S : ℤ → Type 0 = λ n. pos 0 ≤ℤ ((magnitude bound.coef *ℤ rest) +ℤ (coef *ℤ n)) in
    subst S (sym (number_below bound above)) (low_against_high (magnitude bound.coef) coef (magnitude coef) bound.rest rest (below_is coef minus) fits)

suits_high : (bound : Bound) (coef rest : ℤ) → is_negative bound.coef ≡ true → is_negative coef ≡ true
    → (bound.rest *ℤ magnitude coef) ≤ℤ (rest *ℤ magnitude bound.coef) → Suits (Some bound) coef rest
suits_high bound coef rest below minus tight =
    let S : ℤ → Type 0 = λ n. pos 0 ≤ℤ ((magnitude bound.coef *ℤ rest) +ℤ (coef *ℤ n)) in
    subst S (sym (number_above bound below)) (high_against_high (magnitude bound.coef) coef (magnitude coef) bound.rest rest (below_is coef minus) tight)

-- what the number of the taken bound owes to the rows
abbrev SuitsAll : ℕ → RatPoint → List Numbered → Option Bound → Type 0
SuitsAll column point rows bound = (pos 0 <ℤ factor_at bound) × All (λ it. Suits bound (coef_at column it) (value_over it.row point)) rows

abbrev Above : ℕ → RatPoint → List Numbered → Bound → Type 0
Above column point rows bound =
    (is_positive bound.coef ≡ true)
    × All (λ it. is_negative (coef_at column it) ≡ true
    → pos 0 ≤ℤ ((magnitude (coef_at column it) *ℤ bound.rest) +ℤ (magnitude bound.coef *ℤ value_over it.row point))) rows

suits_taken : (column : ℕ) (point : RatPoint) (rows : List Numbered) → HasRoom column point rows
    → All (λ it. is_zero (coef_at column it) ≡ true → pos 0 ≤ℤ value_over it.row point) rows → SuitsAll column point rows (taken (bounds_at (gone_with column rows) point))
unfolding taken
suits_taken column point rows room free =
    let bounds = bounds_at (gone_with column rows) point in
    let low = side_is column point rows true (Above column point rows) (λ k d inside h. (h, room k d inside h)) in
    let high = side_is column point rows false (λ bound. is_negative bound.coef ≡ true) (λ k d inside h. h) in
    (elim (tightest true bounds) as (λ r. MatchOption r (All (λ it. is_positive (coef_at column it) ≡ true → ⊥) rows)
    (λ bound. Above column point rows bound × All (λ it. is_positive (coef_at column it) ≡ true → IsAsTight bound (bound_of column point it)) rows)
    → SuitsAll column point rows (option_or r (tightest false bounds))) [
      | Some bound ↦ λ some.
          let above : pos 0 <ℤ factor_at (Some bound) = nonzero_from_sign true bound.coef some.0.0 in (
            above,
            λ k d inside.
                let it = get_or rows k d in
                let z = coef_at column it in
                by_sign z (Suits (Some bound) z (value_over it.row point))
                (λ plus. suits_low bound z (value_over it.row point) some.0.0 plus (some.1 k d inside plus))
                (λ minus. suits_across bound z (value_over it.row point) some.0.0 minus (some.0.1 k d inside minus))
                (λ none. suits_none (Some bound) z (value_over it.row point) above none (free k d inside none)),
          )
      | None ↦ λ no_plus.
          (elim (tightest false bounds) as (λ r. MatchOption r (All (λ it. is_negative (coef_at column it) ≡ true → ⊥) rows)
          (λ bound. (is_negative bound.coef ≡ true) × All (λ it. is_negative (coef_at column it) ≡ true → IsAsTight bound (bound_of column point it)) rows)
          → SuitsAll column point rows r) [
            | Some bound ↦ λ some.
                let above : pos 0 <ℤ factor_at (Some bound) = nonzero_from_sign false bound.coef some.0 in (
                  above,
                  λ k d inside.
                      let it = get_or rows k d in
                      let z = coef_at column it in
                      by_sign z (Suits (Some bound) z (value_over it.row point))
                      (λ plus. absurd (no_plus k d inside plus))
                      (λ minus. suits_high bound z (value_over it.row point) some.0 minus (some.1 k d inside minus))
                      (λ none. suits_none (Some bound) z (value_over it.row point) above none (free k d inside none)),
                )
            | None ↦ λ no_minus.
                let above : pos 0 <ℤ factor_at None = omega (arith, ints) in (
                  above,
                  λ k d inside.
                      let it = get_or rows k d in
                      let z = coef_at column it in
                      by_sign z (Suits None z (value_over it.row point))
                      (λ plus. absurd (no_plus k d inside plus))
                      (λ minus. absurd (no_minus k d inside minus))
                      (λ none. suits_none None z (value_over it.row point) above none (free k d inside none)),
                )
          ]) high
    ]) low

same_without : (u v c n : ℤ) → is_zero c ≡ true → u ≡ v +ℤ (c *ℤ n) → pos 0 ≤ℤ u → pos 0 ≤ℤ v
same_without u v c n none is holds =
    let nothing : c *ℤ n ≡ pos 0 *ℤ n = ap (λ (z : ℤ). z *ℤ n) (zero_is c none) in
    omega (arith, ints, nothing, is, holds)

pub fills : (column : ℕ) (point : RatPoint) (rows : List Numbered) → column < length point.nums → pos 0 <ℤ point.den → HasRoom column (cleared column point) rows
    → All (λ it. is_zero (coef_at column it) ≡ true → Meets point it.row) rows
    → All (λ it. Meets (placed (gone_with column rows) point) it.row) rows × (pos 0 <ℤ (placed (gone_with column rows) point).den)
unfolding placed
fills column point rows inside positive room free =
    let q = cleared column point in
    let bound = taken (bounds_at (gone_with column rows) q) in
    let still : All (λ it. is_zero (coef_at column it) ≡ true → pos 0 ≤ℤ value_over it.row q) rows =
    λ k d there none.
    let it = get_or rows k d in
    same_without (value_over it.row point) (value_over it.row q) (coef_at column it) (get_or point.nums column (pos 0)) none
    (value_over-cleared it.row point column inside) (free k d there none) in
    let suits = suits_taken column q rows room still in
    let long : column < length q.nums = rw (length-set point.nums column (pos 0)) inside in (
      λ k d there. meets_placed (get_or rows k d).row q column bound long (get_or-cleared point.nums column inside) positive suits.0 (suits.1 k d there),
      denominator_of_placed q column bound positive suits.0,
    )
