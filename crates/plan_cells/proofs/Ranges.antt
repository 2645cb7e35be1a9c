-- A range over numbers reaches each of them, and is narrow where they are coordinates.
use Rattle.std.proofs.Common.{◌⊎◌, inl, inr, ⊎_elim, List, [], ◌∷◌, Option, Some, None, cond, sym, subst, arith}
use Rattle.std.specs.Prelude.{ℤ, ◌≤ℤ◌, Contains, fold, IfSome}
use Rattle.std.specs.Int.{int_min, int_max}
use Rattle.std.proofs.lemmas.Int.{ints}
use Rattle.az_lin.specs.Affine.{IsCoordinate}
use Rattle.loop_scan.proofs.Lists.{first_or_rest, none_contained}
use Rattle.loop_scan.proofs.Ranges.{lt_cases}
use Rattle.plan_cells.specs.Inner.Passing.{IsNarrow}
use Rattle.plan_cells.specs.Numbering.{stretched, range_over, side_over, LiesOn}
use Rattle.plan_cells.specs.declared.range.Range.{Range}

min-below : (a b : ℤ) → (int_min a b ≤ℤ a) × (int_min a b ≤ℤ b)
min-below a b = lt_cases (λ t. (cond t b a ≤ℤ a) × (cond t b a ≤ℤ b)) b a (λ less. (omega (arith, ints, less), omega (arith, ints))) (λ past. (omega (arith, ints), past))

max-above : (a b : ℤ) → (a ≤ℤ int_max a b) × (b ≤ℤ int_max a b)
max-above a b = lt_cases (λ t. (a ≤ℤ cond t a b) × (b ≤ℤ cond t a b)) b a (λ less. (omega (arith, ints), omega (arith, ints, less))) (λ past. (past, omega (arith, ints)))

-- one of both
min-one : (P : ℤ → Type 0) (a b : ℤ) → P a → P b → P (int_min a b)
min-one P a b x y = lt_cases (λ t. P (cond t b a)) b a (λ less. y) (λ past. x)

max-one : (P : ℤ → Type 0) (a b : ℤ) → P a → P b → P (int_max a b)
max-one P a b x y = lt_cases (λ t. P (cond t a b)) b a (λ less. x) (λ past. y)

abbrev pub Reaches : Option Range → ℤ → Type 0
Reaches None x = ⊥
Reaches (Some range) x = (range.least ≤ℤ x) × (x ≤ℤ range.greatest)

reaches-new : (o : Option Range) (x : ℤ) → Reaches (stretched o x) x
reaches-new None x = (omega (arith, ints), omega (arith, ints))
reaches-new (Some range) x = ((min-below range.least x).1, (max-above range.greatest x).1)

reaches-old : (o : Option Range) (x y : ℤ) → Reaches o y → Reaches (stretched o x) y
reaches-old None x y h = absurd h
reaches-old (Some range) x y h =
    let low = (min-below range.least x).0 in
    let high = (max-above range.greatest x).0 in
    (omega (arith, ints, low, h.0), omega (arith, ints, high, h.1))

reaches-from : (o : Option Range) (xs : List ℤ) (y : ℤ) → Reaches o y ⊎ Contains xs y → Reaches (fold stretched o xs) y
reaches-from o [] y h = ⊎_elim (λ old. old) (λ c. absurd (none_contained y c)) h
reaches-from o (x ∷ xs) y h = reaches-from (stretched o x) xs y (⊎_elim
    (λ old. inl (reaches-old o x y old))
    (λ c. ⊎_elim (λ same. inl (subst (λ w. Reaches (stretched o x) w) (sym same) (reaches-new o x))) (λ later. inr later) (first_or_rest x xs y c)) h)

pub range-reaches : (xs : List ℤ) (y : ℤ) → Contains xs y → Reaches (range_over xs) y
range-reaches xs y c = reaches-from None xs y (inr c)

pub narrow-step : (o : Option Range) (x : ℤ) → IsCoordinate x → IfSome o IsNarrow → IfSome (stretched o x) IsNarrow
narrow-step None x small h = record { least = small; greatest = small; order = omega (arith, ints) }
narrow-step (Some range) x small h = record {
  least = min-one IsCoordinate range.least x h.least small;
  greatest = max-one IsCoordinate range.greatest x h.greatest small;
  order = let low = (min-below range.least x).1 in let high = (max-above range.greatest x).1 in omega (arith, ints, low, high);
}

-- what a range reaches lies on its side
pub lies-on : (o : Option Range) (x : ℤ) → Reaches o x → LiesOn (side_over o 0) x
lies-on None x h = absurd h
lies-on (Some range) x h = (h.0, omega (arith, ints, h.0, h.1))
