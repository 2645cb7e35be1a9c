-- Multipliers that balance the directions of an index bound it at fixed outer coordinates.
use Rattle.std.proofs.Common.{◌≡◌, ⊎_elim, ℕ, zero, suc, ◌+◌, ◌-◌, ◌<◌, ◌≤◌, ℤ, pos, negsuc, ◌+ℤ◌, ◌*ℤ◌, ◌≤ℤ◌, unsigned_abs, List, [], ◌∷◌, ◌++◌, length, map, drop, get_or, replicate, set, All, refl, sym, ap, ap₂, subst, ◌∙◌, arith, length-append, zero-add}
use Rattle.std.specs.List.{Any, range_with_len}
use Rattle.std.proofs.lemmas.Int.{ints}
use Rattle.std.proofs.lemmas.Bool.{cases_lt}
use Rattle.std.proofs.lemmas.List.{get_or-drop, get_or_past}
use Rattle.std.proofs.lemmas.List.Elements.{All-head, All-tail, All-from_get_or, recursion_from_All}
use Rattle.az_lin.specs.Affine.{Affine, Polyhedron, Union, Holds, IsAtLeastZero, dot, value_at}
use Rattle.az_lin.proofs.Columns.{dot-nil, dot-after}
use Rattle.az_lin.proofs.Integers.{mul-add_int, mul-nonneg_int}
use Rattle.az_lin.proofs.Substitution.{dot-linear, dot-zeros}
use Rattle.farkas_check.specs.Directions.{coef_at, column_sum, BalancingMultipliers}
use Rattle.az_ast.specs.Certified.{IsFinite}
use Rattle.az_lin.proofs.Lists.{Any-nil, Any-cons}
use Rattle.expr_places.specs.Directions.{slope, moves, directions, HasNoDirection, IsBalanced}

head_zero : (a b y : ℤ) → a ≡ pos 0 → b ≡ pos 0 → (a *ℤ y) +ℤ b ≡ pos 0
head_zero a b y p q = ap₂ (λ (m n : ℤ). (m *ℤ y) +ℤ n) p q ∙ omega (arith, ints)

-- the product with a list that is given place by place
dot-places : (f : ℕ → ℤ) (s : ℕ) (xs k : List ℤ) → ((j : ℕ) → f (s + j) ≡ get_or xs j (pos 0)) → dot (map f (range_with_len s (length k))) k ≡ dot xs k
dot-places f s xs [] same = sym (dot-nil xs)
dot-places f s [] (y ∷ k) same =
    let at : s ≡ s + 0 = omega arith in
    let next : (j : ℕ) → (s + 1) + j ≡ s + suc j = λ j. omega arith in
    head_zero (f s) (dot (map f (range_with_len (s + 1) (length k))) k) y (ap f at ∙ same 0) (dot-places f (s + 1) [] k (λ j. ap f (next j) ∙ same (suc j)))
dot-places f s (x ∷ xs) (y ∷ k) same =
    let at : s ≡ s + 0 = omega arith in
    let next : (j : ℕ) → (s + 1) + j ≡ s + suc j = λ j. omega arith in
    ap₂ (λ (a b : ℤ). (a *ℤ y) +ℤ b) (ap f at ∙ same 0) (dot-places f (s + 1) xs k (λ j. ap f (next j) ∙ same (suc j)))

dot-columns : (f : ℕ → ℤ) (xs k : List ℤ) → ((j : ℕ) → f j ≡ get_or xs j (pos 0)) → dot (map f (range_with_len 0 (length k))) k ≡ dot xs k
dot-columns f xs k same = dot-places f 0 xs k (λ j. ap f (zero-add j) ∙ same j)

-- the product with a unit
dot-replicate : (n : ℕ) (k : List ℤ) → dot (replicate n (pos 0)) k ≡ pos 0
dot-replicate zero k = refl
dot-replicate (suc n) [] = refl
dot-replicate (suc n) (y ∷ k) = omega (arith, ints, dot-replicate n k)

dot-unit : (n j : ℕ) (sign : ℤ) (k : List ℤ) → j < n → dot (set (replicate n (pos 0)) j sign) k ≡ sign *ℤ get_or k j (pos 0)
dot-unit zero j sign k below = absurd (omega arith)
dot-unit (suc n) zero sign [] below = omega (arith, ints)
dot-unit (suc n) zero sign (y ∷ k) below = omega (arith, ints, dot-replicate n k)
dot-unit (suc n) (suc j) sign [] below = omega (arith, ints)
dot-unit (suc n) (suc j) sign (y ∷ k) below = omega (arith, ints, dot-unit n j sign k (omega arith))

-- the values of rows at a point, each times its multiplier
sum_at : List ℕ → List Affine → List ℤ → ℤ
sum_at [] rows y = pos 0
sum_at (m ∷ ms) [] y = pos 0
sum_at (m ∷ ms) (row ∷ rows) y = (pos m *ℤ value_at row y) +ℤ sum_at ms rows y

sum_at-nonneg : (ms : List ℕ) (rows : List Affine) (y : List ℤ) → All (IsAtLeastZero y) rows → pos 0 ≤ℤ sum_at ms rows y
unfolding sum_at
sum_at-nonneg [] rows y all = omega (arith, ints)
sum_at-nonneg (m ∷ ms) [] y all = omega (arith, ints)
sum_at-nonneg (m ∷ ms) (row ∷ rows) y all =
    let here : pos 0 ≤ℤ (pos m *ℤ value_at row y) = mul-nonneg_int (pos m) (value_at row y) (omega (arith, ints)) (All-head (IsAtLeastZero y) row rows all) in
    let rest : pos 0 ≤ℤ sum_at ms rows y = sum_at-nonneg ms rows y (All-tail (IsAtLeastZero y) row rows all) in
    omega (arith, ints)

module _ (outer : ℕ) (z k : List ℤ) (long : length z ≡ outer) where
  abbrev slopes : List Affine → List Affine
  slopes rows = map (slope outer (length k)) rows

  abbrev change : (ℕ → ℤ) → ℤ
  change f = dot (map f (range_with_len 0 (length k))) k

  slope-places : (row : Affine) → dot (slope outer (length k) row).coefs k ≡ dot (drop outer row.coefs) k
  slope-places row = dot-columns (λ j. coef_at row (outer + j)) (drop outer row.coefs) k (λ j. sym (get_or-drop outer row.coefs j (pos 0)))

  value-slope : (row : Affine) → value_at row (z ++ k) ≡ value_at row z +ℤ change (coef_at (slope outer (length k) row))
  value-slope row =
      let whole : dot row.coefs (z ++ k) ≡ dot row.coefs z +ℤ dot (drop (length z) row.coefs) k = dot-after row.coefs z k in
      let there : dot (drop (length z) row.coefs) k ≡ dot (drop outer row.coefs) k = ap (λ n. dot (drop n row.coefs) k) long in
      let own : change (coef_at (slope outer (length k) row)) ≡ dot (slope outer (length k) row).coefs k
      = dot-columns (coef_at (slope outer (length k) row)) (slope outer (length k) row).coefs k (λ j. refl) in
      let same : dot (slope outer (length k) row).coefs k ≡ dot (drop outer row.coefs) k = slope-places row in
      omega (arith, ints, whole, there, own, same)

  -- the sum at a point is that at the fixed coordinates and how it changes
  sum_at-split : (ms : List ℕ) (rows : List Affine) → sum_at ms rows (z ++ k) ≡ sum_at ms rows z +ℤ change (λ j. column_sum ms (slopes rows) j)
  unfolding sum_at
  sum_at-split [] rows = omega (arith, ints, dot-zeros (range_with_len 0 (length k)) k)
  sum_at-split (m ∷ ms) [] = omega (arith, ints, dot-zeros (range_with_len 0 (length k)) k)
  sum_at-split (m ∷ ms) (row ∷ rows) =
      let srow = slope outer (length k) row in
      let linear : change (λ j. (pos m *ℤ coef_at srow j) +ℤ column_sum ms (slopes rows) j) ≡ (pos m *ℤ change (coef_at srow)) +ℤ change (λ j. column_sum ms (slopes rows) j)
      = dot-linear (pos m) (coef_at srow) (λ j. column_sum ms (slopes rows) j) (range_with_len 0 (length k)) k in
      let here : pos m *ℤ value_at row (z ++ k) ≡ (pos m *ℤ value_at row z) +ℤ (pos m *ℤ change (coef_at srow))
      = ap (λ v. pos m *ℤ v) (value-slope row) ∙ mul-add_int (pos m) (value_at row z) (change (coef_at srow)) in
      omega (arith, ints, linear, here, sum_at-split ms rows)

-- the last row's part of a column
column_sum-last : (ms : List ℕ) (rows : List Affine) (row : Affine) (j : ℕ) → column_sum ms (rows ++ row ∷ []) j ≡ column_sum ms rows j +ℤ (pos (get_or ms (length rows) 0) *ℤ coef_at row j)
column_sum-last [] rows row j = omega (arith, ints)
column_sum-last (m ∷ []) [] row j = omega (arith, ints)
column_sum-last (m ∷ n ∷ ms) [] row j = omega (arith, ints)
column_sum-last (m ∷ ms) (first ∷ rows) row j = omega (arith, ints, column_sum-last ms rows row j)

get_or-zeros : (f : ℕ → ℤ) → ((i : ℕ) → f i ≡ pos 0) → (js : List ℕ) (j : ℕ) → get_or (map f js) j (pos 0) ≡ pos 0
get_or-zeros f none [] j = refl
get_or-zeros f none (i ∷ js) zero = none i
get_or-zeros f none (i ∷ js) (suc j) = get_or-zeros f none js j

-- rows over the outer columns alone don't change
column_sum-around : (outer extra : ℕ) (ms : List ℕ) (around rows : List Affine) (j : ℕ) → All (λ row. length row.coefs ≤ outer) around
    → column_sum ms (map (slope outer extra) (around ++ rows)) j ≡ column_sum (drop (length around) ms) (map (slope outer extra) rows) j
column_sum-around outer extra ms [] rows j narrow = refl
column_sum-around outer extra [] (row ∷ around) rows j narrow = refl
column_sum-around outer extra (m ∷ ms) (row ∷ around) rows j narrow =
    let short : length row.coefs ≤ outer = All-head (λ (row : Affine). length row.coefs ≤ outer) row around narrow in
    let still : coef_at (slope outer extra row) j ≡ pos 0
    = get_or-zeros (λ i. coef_at row (outer + i)) (λ i. get_or_past row.coefs (outer + i) (pos 0) (omega arith)) (range_with_len 0 extra) j in
    let rest = column_sum-around outer extra ms around rows j (All-tail (λ (row : Affine). length row.coefs ≤ outer) row around narrow) in
    ap (λ c. (pos m *ℤ c) +ℤ column_sum ms (map (slope outer extra) (around ++ rows)) j) still ∙ (omega (arith, ints) ∙ rest)

-- what is pushed up by a positive multiplier stays below
below : (m : ℕ) (x fixed moved : ℤ) → 0 < m → pos 0 ≤ℤ (fixed +ℤ moved) → (pos m *ℤ x) +ℤ moved ≡ pos 0 → x ≤ℤ pos (unsigned_abs fixed)
below (suc m) (pos n) fixed moved positive some none = omega (arith, ints)
below (suc m) (negsuc n) fixed moved positive some none = omega (arith, ints)
below zero x fixed moved positive some none = absurd (omega arith)

wider : (before own c : ℕ) → c ≤ own → c ≤ before + own
wider before own c h = omega arith

-- the first coordinates are bounded where a point is held
abbrev Bounds : (extra n : ℕ) (IsHeld : List ℤ → Type 0) → Type 0
Bounds extra n IsHeld = (bound : ℕ) × ((k : List ℤ) → length k ≡ extra → IsHeld k → (j : ℕ) → j < n → unsigned_abs (get_or k j (pos 0)) ≤ bound)

module _ (outer : ℕ) (around : List Affine) (narrow : All (λ row. length row.coefs ≤ outer) around) (z : List ℤ) (long : length z ≡ outer) where
  -- the bound in one direction
  abbrev least : (extra : ℕ) (rows : List Affine) (j : ℕ) (sign : ℤ) → BalancingMultipliers (directions outer extra (around ++ rows) j sign) → ℕ
  least extra rows j sign balancing = unsigned_abs (sum_at (drop (length around) balancing.numbers) rows z)

  bounded : (k : List ℤ) (rows : List Affine) (j : ℕ) (sign : ℤ) (balancing : BalancingMultipliers (directions outer (length k) (around ++ rows) j sign)) → j < length k
      → All (IsAtLeastZero (z ++ k)) rows → (sign *ℤ get_or k j (pos 0)) ≤ℤ pos (least (length k) rows j sign balancing)
  bounded k rows j sign balancing within held =
      let unit = moves (length k) j sign in
      let ms = balancing.numbers in
      let us = drop (length around) ms in
      let all = map (slope outer (length k)) (around ++ rows) in
      let own = map (slope outer (length k)) rows in
      let m = get_or ms (length all) 0 in
      let changes : ℤ = dot (map (λ i. column_sum us own i) (range_with_len 0 (length k))) k in
      let last : length (all ++ unit ∷ []) - 1 ≡ length all = omega (arith, length-append all (unit ∷ [])) in
      let positive : 0 < m = subst (λ i. 0 < get_or ms i 0) last balancing.last in
      let each : (i : ℕ) → (pos m *ℤ coef_at unit i) +ℤ column_sum us own i ≡ pos 0
      = λ i. (let whole = column_sum-last ms all unit i in let part = column_sum-around outer (length k) ms around rows i narrow in let sum = balancing.balanced i in omega (arith, ints, whole, part, sum)) in
      let none : dot (map (λ i. (pos m *ℤ coef_at unit i) +ℤ column_sum us own i) (range_with_len 0 (length k))) k ≡ pos 0
      = dot-columns (λ i. (pos m *ℤ coef_at unit i) +ℤ column_sum us own i) [] k each in
      let linear = dot-linear (pos m) (coef_at unit) (λ i. column_sum us own i) (range_with_len 0 (length k)) k in
      let along : dot (map (coef_at unit) (range_with_len 0 (length k))) k ≡ sign *ℤ get_or k j (pos 0)
      = dot-columns (coef_at unit) unit.coefs k (λ i. refl) ∙ dot-unit (length k) j sign k within in
      let split = sum_at-split outer z k long us rows in
      let some : pos 0 ≤ℤ (sum_at us rows z +ℤ changes) = subst (λ v. pos 0 ≤ℤ v) split (sum_at-nonneg us rows (z ++ k) held) in
      below m (sign *ℤ get_or k j (pos 0)) (sum_at us rows z) changes positive some
      (ap (λ v. (pos m *ℤ v) +ℤ changes) (sym along) ∙ (sym linear ∙ none))

  -- in both
  both : (k : List ℤ) (extra : ℕ) (rows : List Affine) (j : ℕ) (up : BalancingMultipliers (directions outer extra (around ++ rows) j (pos 1))) (down : BalancingMultipliers (directions outer extra (around ++ rows) j (negsuc 0)))
      → length k ≡ extra → j < extra → All (IsAtLeastZero (z ++ k)) rows → unsigned_abs (get_or k j (pos 0)) ≤ least extra rows j (pos 1) up + least extra rows j (negsuc 0) down
  both k extra rows j up down same within held =
      let P : ℕ → Type 0 = λ n. (up : BalancingMultipliers (directions outer n (around ++ rows) j (pos 1))) (down : BalancingMultipliers (directions outer n (around ++ rows) j (negsuc 0)))
      → j < n → unsigned_abs (get_or k j (pos 0)) ≤ least n rows j (pos 1) up + least n rows j (negsuc 0) down in
      subst P same (λ up down within.
      let high = bounded k rows j (pos 1) up within held in
      let low = bounded k rows j (negsuc 0) down within held in
      omega (arith, ints, high, low)) up down within

  -- in all indices below one
  indices : (extra : ℕ) (rows : List Affine) → HasNoDirection outer extra (around ++ rows) → (n : ℕ) → n ≤ extra → Bounds extra n (λ k. All (IsAtLeastZero (z ++ k)) rows)
  indices extra rows balanced zero all = (0, λ k same held j within. absurd (omega arith))
  indices extra rows balanced (suc n) all =
      let before = indices extra rows balanced n (omega arith) in
      let here : n < extra = omega arith in
      let one = balanced n here in
      let own = least extra rows n (pos 1) one.0 + least extra rows n (negsuc 0) one.1 in (
        before.0 + own,
        λ k same held j within.
            ⊎_elim
            (λ earlier. let bound : unsigned_abs (get_or k j (pos 0)) ≤ before.0 = before.1 k same held j earlier in omega (arith, bound))
            (λ later. let last : n ≡ j = omega arith in
            subst (λ i. unsigned_abs (get_or k i (pos 0)) ≤ before.0 + own) last
            (wider before.0 own (unsigned_abs (get_or k n (pos 0))) (both k extra rows n one.0 one.1 same here held)))
            (cases_lt j n),
      )

  disjuncts : (extra : ℕ) (conjs : List Polyhedron) → All (λ conj. HasNoDirection outer extra (around ++ conj.rows)) conjs → Bounds extra extra (λ k. Any (λ conj. Holds conj (z ++ k)) conjs)
  disjuncts extra [] balanced = (0, λ k same held j within. absurd (Any-nil (λ conj. Holds conj (z ++ k)) held))
  disjuncts extra (conj ∷ conjs) balanced =
      let P : Polyhedron → Type 0 = λ conj. HasNoDirection outer extra (around ++ conj.rows) in
      let first = indices extra conj.rows (All-head P conj conjs balanced) extra (omega arith) in
      let rest = disjuncts extra conjs (All-tail P conj conjs balanced) in (
        first.0 + rest.0,
        λ k same held j within.
            ⊎_elim
            (λ here. let bound : unsigned_abs (get_or k j (pos 0)) ≤ first.0 = first.1 k same here j within in omega (arith, bound))
            (λ there. let bound : unsigned_abs (get_or k j (pos 0)) ≤ rest.0 = rest.1 k same there j within in omega (arith, bound))
            (Any-cons (λ conj. Holds conj (z ++ k)) conj conjs held),
      )

pub finite : (around : List Affine) (domain : Union) (outer extra : ℕ) → IsBalanced around domain outer extra → IsFinite domain outer extra
finite around domain outer extra balanced z long =
    let bounds = disjuncts outer around balanced.outside z long extra domain.disjuncts balanced.disjuncts in (
      bounds.0,
      λ k member.
          recursion_from_All (λ c. unsigned_abs c ≤ bounds.0) k
          (All-from_get_or (λ c. unsigned_abs c ≤ bounds.0) k (pos 0) (λ j within. bounds.1 k member.0 member.1 j (subst (λ n. j < n) member.0 within))),
    )
