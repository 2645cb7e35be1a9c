-- What each turn of a walk leaves to come, and the work that it leaves.
use Rattle.std.proofs.Common.{◌≡◌, ℕ, zero, suc, ◌+◌, ◌<◌, List, [], ◌∷◌, ◌++◌, length, take, drop, set, get_or, refl, sym, subst, ap, ◌∙◌, arith, append_assoc, add-one}
use Rattle.std.specs.Prelude.{ℤ, pos, ◌+ℤ◌, ◌≤ℤ◌, ◌<ℤ◌}
use Rattle.std.specs.List.{flat_map, sum_by}
use Rattle.std.proofs.lemmas.Int.{ints}
use Rattle.std.proofs.lemmas.List.{take-take, get_or-take, get_or-set_same, take-set, take_more_set}
use Rattle.std.proofs.lemmas.List.Sums.{sum_by-cons}
use Rattle.std.proofs.Math.Seq.{drop-cons}
use Rattle.loop_scan.specs.declared.range.Range.{Range}
use Rattle.loop_scan.specs.declared.level.Level.{Level}
use Rattle.loop_scan.specs.Nest.Levels.{range_at, HasCoordinates, IsLevel, AreLevels}
use Rattle.loop_scan.specs.Hulls.{no_range}
use Rattle.loop_scan.specs.Nest.Walks.{integers, walk, steps, remaining, work}
use Rattle.loop_scan.proofs.Ranges.{integers-none, integers-first}

-- the level after so many others
pub AreLevels-at : (k i : ℕ) (levels : List Level) (d : Level) → i < length levels → AreLevels k levels → IsLevel (k + i) (get_or levels i d)
AreLevels-at k i [] d h are = absurd (omega arith)
AreLevels-at k zero (level ∷ levels) d h are = let P : ℕ → Type 0 = λ n. IsLevel n level in subst P (omega arith) are.0
AreLevels-at k (suc i) (level ∷ levels) d h are =
    let P : ℕ → Type 0 = λ n. IsLevel n (get_or levels i d) in subst P (omega arith) (AreLevels-at (suc k) i levels d (omega arith) are.1)

-- what an index does, given the coordinates before it and the numbers before it
cell : List Level → ℕ → List ℤ → Range → List (List ℤ)
cell levels k z range = flat_map (λ x. walk (drop (suc k) levels) (z ++ x ∷ [])) (integers range)

effort : List Level → ℕ → List ℤ → Range → ℕ
effort levels k z range = suc (sum_by (λ x. suc (steps (drop (suc k) levels) (z ++ x ∷ []))) (integers range))

-- changes at later places change nothing
module _ (levels : List Level) (p q : List ℤ) (rs ss : List Range) where
  pub remaining-frame : (n : ℕ) → take n p ≡ take n q → take n rs ≡ take n ss → remaining levels p rs n ≡ remaining levels q ss n
  unfolding cell
  remaining-frame zero e f = refl
  remaining-frame (suc k) e f =
      let same_point : take k p ≡ take k q = sym (take-take k (suc k) p (omega arith)) ∙ ap (take k) e ∙ take-take k (suc k) q (omega arith) in
      let same_ranges : take k rs ≡ take k ss = sym (take-take k (suc k) rs (omega arith)) ∙ ap (take k) f ∙ take-take k (suc k) ss (omega arith) in
      let same_range : get_or rs k no_range ≡ get_or ss k no_range =
      sym (get_or-take (suc k) rs k no_range (omega arith)) ∙ ap (λ xs. get_or xs k no_range) f ∙ get_or-take (suc k) ss k no_range (omega arith) in
      ap (λ z. cell levels k z (get_or rs k no_range) ++ remaining levels p rs k) same_point
      ∙ ap (λ r. cell levels k (take k q) r ++ remaining levels p rs k) same_range
      ∙ ap (λ rest. cell levels k (take k q) (get_or ss k no_range) ++ rest) (remaining-frame k same_point same_ranges)

  pub work-frame : (n : ℕ) → take n p ≡ take n q → take n rs ≡ take n ss → work levels p rs n ≡ work levels q ss n
  unfolding effort
  work-frame zero e f = refl
  work-frame (suc k) e f =
      let same_point : take k p ≡ take k q = sym (take-take k (suc k) p (omega arith)) ∙ ap (take k) e ∙ take-take k (suc k) q (omega arith) in
      let same_ranges : take k rs ≡ take k ss = sym (take-take k (suc k) rs (omega arith)) ∙ ap (take k) f ∙ take-take k (suc k) ss (omega arith) in
      let same_range : get_or rs k no_range ≡ get_or ss k no_range =
      sym (get_or-take (suc k) rs k no_range (omega arith)) ∙ ap (λ xs. get_or xs k no_range) f ∙ get_or-take (suc k) ss k no_range (omega arith) in
      ap (λ z. effort levels k z (get_or rs k no_range) + work levels p rs k) same_point
      ∙ ap (λ r. effort levels k (take k q) r + work levels p rs k) same_range
      ∙ ap (λ rest. effort levels k (take k q) (get_or ss k no_range) + rest) (work-frame k same_point same_ranges)

-- an index is entered
module _ (levels : List Level) (point : List ℤ) (ranges : List Range) (k : ℕ) (level : Level) (inside : k < length levels) (room : k < length ranges) (is : level ≡ get_or levels k level) where
  range : Range
  range = range_at level (take k point)

  rest_of : drop k levels ≡ level ∷ drop (suc k) levels
  rest_of = drop-cons levels k level inside ∙ ap (λ l. l ∷ drop (suc k) levels) (sym is)

  pub remaining-entered : remaining levels point (set ranges k (range_at level (take k point))) (k + 1) ≡ walk (drop k levels) (take k point) ++ remaining levels point ranges k
  unfolding cell
  remaining-entered =
      let rs = set ranges k (range_at level (take k point)) in
      let here : get_or rs k no_range ≡ range_at level (take k point) = get_or-set_same ranges k (range_at level (take k point)) no_range room in
      ap (remaining levels point rs) (add-one k)
      ∙ ap (λ r. cell levels k (take k point) r ++ remaining levels point rs k) here
      ∙ ap (λ rest. cell levels k (take k point) (range_at level (take k point)) ++ rest)
      (remaining-frame levels point point rs ranges k refl (take-set ranges k (range_at level (take k point))))
      ∙ ap (λ ls. walk ls (take k point) ++ remaining levels point ranges k) (sym rest_of)

  pub work-entered : work levels point (set ranges k (range_at level (take k point))) (k + 1) ≡ steps (drop k levels) (take k point) + work levels point ranges k
  unfolding effort
  work-entered =
      let rs = set ranges k (range_at level (take k point)) in
      let here : get_or rs k no_range ≡ range_at level (take k point) = get_or-set_same ranges k (range_at level (take k point)) no_range room in
      ap (work levels point rs) (add-one k)
      ∙ ap (λ r. effort levels k (take k point) r + work levels point rs k) here
      ∙ ap (λ rest. effort levels k (take k point) (range_at level (take k point)) + rest)
      (work-frame levels point point rs ranges k refl (take-set ranges k (range_at level (take k point))))
      ∙ ap (λ ls. steps ls (take k point) + work levels point ranges k) (sym rest_of)

-- an index gets its next number
module _ (levels : List Level) (point : List ℤ) (ranges : List Range) (k : ℕ) (low high : ℤ)
    (place : k < length point) (room : k < length ranges) (is : get_or ranges k no_range ≡ record { low = low; high = high }) (some : low ≤ℤ high) where
  later : Range
  later = record { low = low +ℤ pos 1; high = high }

  now : Range
  now = record { low = low; high = high }

  prefix : take (suc k) (set point k low) ≡ take k point ++ low ∷ []
  prefix = ap (λ n. take n (set point k low)) (sym (add-one k)) ∙ take_more_set point k low place

  pub remaining-taken :
      remaining levels point ranges (suc k)
      ≡ walk (drop (suc k) levels) (take (suc k) (set point k low)) ++ remaining levels (set point k low) (set ranges k (record { low = low +ℤ pos 1; high = high })) (suc k)
  unfolding cell later now
  remaining-taken =
      let q = set point k low in
      let rs = set ranges k later in
      let F : ℤ → List (List ℤ) = λ x. walk (drop (suc k) levels) (take k point ++ x ∷ []) in
      let old = remaining levels point ranges k in
      let here : get_or rs k no_range ≡ later = get_or-set_same ranges k later no_range room in
      let old_rest : remaining levels q rs (suc k) ≡ flat_map F (integers later) ++ old =
      ap (λ z. cell levels k z (get_or rs k no_range) ++ remaining levels q rs k) (take-set point k low)
      ∙ ap (λ r. cell levels k (take k point) r ++ remaining levels q rs k) here
      ∙ ap (λ rest. cell levels k (take k point) later ++ rest) (remaining-frame levels q point rs ranges k (take-set point k low) (take-set ranges k later)) in
      ap (λ r. cell levels k (take k point) r ++ old) is
      ∙ ap (λ xs. flat_map F xs ++ old) (integers-first low high some)
      ∙ append_assoc (F low) (flat_map F (integers later)) old
      ∙ ap (λ rest. F low ++ rest) (sym old_rest)
      ∙ ap (λ z. walk (drop (suc k) levels) z ++ remaining levels q rs (suc k)) (sym prefix)

  pub work-taken :
      work levels point ranges (suc k)
      ≡ suc (steps (drop (suc k) levels) (take (suc k) (set point k low))) + work levels (set point k low) (set ranges k (record { low = low +ℤ pos 1; high = high })) (suc k)
  unfolding effort later now
  work-taken =
      let q = set point k low in
      let rs = set ranges k later in
      let F : ℤ → ℕ = λ x. suc (steps (drop (suc k) levels) (take k point ++ x ∷ [])) in
      let old = work levels point ranges k in
      let here : get_or rs k no_range ≡ later = get_or-set_same ranges k later no_range room in
      let old_rest : work levels q rs (suc k) ≡ suc (sum_by F (integers later)) + old =
      ap (λ z. effort levels k z (get_or rs k no_range) + work levels q rs k) (take-set point k low)
      ∙ ap (λ r. effort levels k (take k point) r + work levels q rs k) here
      ∙ ap (λ rest. effort levels k (take k point) later + rest) (work-frame levels q point rs ranges k (take-set point k low) (take-set ranges k later)) in
      let first : work levels point ranges (suc k) ≡ suc (sum_by F (low ∷ integers later)) + old =
      ap (λ r. effort levels k (take k point) r + old) is ∙ ap (λ xs. suc (sum_by F xs) + old) (integers-first low high some) in
      let parts : sum_by F (low ∷ integers later) ≡ F low + sum_by F (integers later) = sum_by-cons F low (integers later) in
      let there : steps (drop (suc k) levels) (take (suc k) q) ≡ steps (drop (suc k) levels) (take k point ++ low ∷ []) = ap (steps (drop (suc k) levels)) prefix in
      omega (arith, old_rest, first, parts, there)

-- an index is through
module _ (levels : List Level) (point : List ℤ) (ranges : List Range) (k : ℕ) (none : (get_or ranges k no_range).high <ℤ (get_or ranges k no_range).low) where
  pub remaining-left : remaining levels point ranges k ≡ remaining levels point ranges (suc k)
  remaining-left =
      ap (λ xs. flat_map (λ x. walk (drop (suc k) levels) (take k point ++ x ∷ [])) xs ++ remaining levels point ranges k)
      (sym (integers-none (get_or ranges k no_range) none))

  pub work-left : work levels point ranges k < work levels point ranges (suc k)
  work-left = omega arith

-- the ranges stay within their coordinates
pub HasCoordinates-later : (low high : ℤ) → HasCoordinates (record { low = low; high = high }) → HasCoordinates (record { low = low +ℤ pos 1; high = high })
HasCoordinates-later low high h x inside = h x (omega (arith, ints), inside.1)
