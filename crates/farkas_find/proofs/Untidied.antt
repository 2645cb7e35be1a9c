-- A point that meets what tidying leaves meets every row that was there, if none of them refutes the system: a row that
-- is left out is its constant everywhere, or a row that stays is at least as strong.
use Rattle.std.proofs.Common.{◌≡◌, ◌∙◌, ℕ, zero, suc, ◌+◌, ◌<◌, ◌≤◌, ap, refl, sym, subst, arith, Bool, true, false, cond, not, ◌&&◌, nat_eq, nat_lt, int_lt, int_le, List, [], ◌∷◌, length, map, get_or, take, drop, Some, None, ℤ, pos, ◌*ℤ◌, ◌≤ℤ◌, ◌<ℤ◌}
use Rattle.std.specs.List.{All, list_any, list_all, position, position_or_len, prefix_len, range_with_len, items_where_true}
use Rattle.std.specs.Ordering.{int_eq}
use Rattle.std.specs.Cmp.Lexicographic.{pointwise}
use Rattle.std.specs.Cmp.Rules.{signed_items}
use Rattle.std.proofs.lemmas.Int.{ints, by_lt_z}
use Rattle.std.proofs.lemmas.Option.{none-some}
use Rattle.std.proofs.lemmas.Bool.Decides.{nat_tests, Decides-int_eq}
use Rattle.std.proofs.lemmas.List.{get_or-take, get_or-drop, length-drop}
use Rattle.std.proofs.lemmas.List.Folds.{list_any_none}
use Rattle.std.proofs.lemmas.List.FromFn.{get_or-map-range_with_len}
use Rattle.std.proofs.lemmas.List.Elements.{All-nil, All-cons, All-head, All-tail, All-from_get_or}
use Rattle.az_lin.specs.Affine.{Affine, dot}
use Rattle.az_lin.specs.declared.step.RatPoint.{RatPoint}
use Rattle.az_lin.proofs.Integers.{mul_comm_int, mul-nonneg_int, le-mul_left_int}
use Rattle.farkas_find.specs.declared.numbered.Numbered.{Numbered}
use Rattle.farkas_find.specs.Tidying.{row_at, is_zero, is_rounded, rounded, rounded_rows, is_constant, is_refuting, is_at_least_as_strong, is_stronger, stays, strongest}
use Rattle.farkas_find.proofs.Rounded.{rounded-no}
use Rattle.farkas_find.proofs.Values.{Meets, meets_unrounded}
use Rattle.farkas_find.proofs.Paired.{left_of_and, right_of_and}

itself : (z : ℤ) → z ≤ℤ z
itself z = omega (arith, ints)

weaken : (x y : ℤ) → x <ℤ y → x ≤ℤ y
weaken x y h = omega (arith, ints)

through : (x y z : ℤ) → x <ℤ y → y ≤ℤ z → x <ℤ z
through x y z p q = omega (arith, ints)

after : (x y z : ℤ) → x ≤ℤ y → y <ℤ z → x <ℤ z
after x y z p q = omega (arith, ints)

contrary : (b : Bool) → b ≡ true → b ≡ false → ⊥
contrary b p q = absurd (cc)

at_most_not_less : (x y : ℤ) → int_le x y ≡ true → y <ℤ x → ⊥
at_most_not_less x y p q = grind (arith, ints)

less_not_at_most : (x y : ℤ) → int_lt x y ≡ true → y ≤ℤ x → ⊥
less_not_at_most x y p q = grind (arith, ints)

not_negative : (z : ℤ) → int_lt z (pos 0) ≡ false → pos 0 ≤ℤ z
not_negative z h = grind (arith, ints)

second_false : (a b : Bool) → a ≡ true → (a && b) ≡ false → b ≡ false
second_false true b p q = q
second_false false b p q = absurd (cc)

taken_below : (k j : ℕ) (rows : List Numbered) → k < length (take j rows) → k < j
taken_below k zero rows h = absurd (omega arith)
taken_below k (suc j) [] h = absurd (omega arith)
taken_below zero (suc j) (x ∷ xs) h = omega arith
taken_below (suc k) (suc j) (x ∷ xs) h = omega (arith, taken_below k j xs (omega arith))

-- no row refutes
all_prefix : {X : Type 0} (p : X → Bool) (xs : List X) → length xs ≤ prefix_len (λ x. not (p x)) xs → All (λ x. p x ≡ false) xs
all_prefix p [] h = All-nil (λ x. p x ≡ false)
all_prefix p (x ∷ xs) h =
    (elim (p x) as (λ b. p x ≡ b → suc (length xs) ≤ cond (not b) (1 + prefix_len (λ x. not (p x)) xs) 0 → All (λ y. p y ≡ false) (x ∷ xs)) [
      | true ↦ λ e short. absurd (omega arith)
      | false ↦ λ e long. All-cons (λ y. p y ≡ false) x xs e (all_prefix p xs (omega arith))
    ]) refl h

not_some : (b : Bool) (n : ℕ) → cond b (Some n) None ≡ None → b ≡ false
not_some true n e = absurd (none-some n (sym e))
not_some false n e = refl

at_least : (a b : ℕ) → nat_lt a b ≡ false → b ≤ a
at_least a b h = grind (arith, nat_tests)

position_none : {X : Type 0} (p : X → Bool) (xs : List X) → position p xs ≡ None → All (λ x. p x ≡ false) xs
position_none p xs e =
    all_prefix p xs (at_least (position_or_len p xs) (length xs) (not_some (nat_lt (position_or_len p xs) (length xs)) (position_or_len p xs) e))

-- a flag that is set keeps its item
picked : {X : Type 0} (P : X → Type 0) (bs : List Bool) (xs : List X) → All P (items_where_true bs xs) → (i : ℕ) (d : X) → i < length xs → get_or bs i false ≡ true → P (get_or xs i d)
picked P [] xs all i d inside set = absurd (cc)
picked P (b ∷ bs) [] all i d inside set = absurd (omega arith)
picked P (true ∷ bs) (x ∷ xs) all zero d inside set = All-head P x (items_where_true bs xs) all
picked P (false ∷ bs) (x ∷ xs) all zero d inside set = absurd (cc)
picked P (true ∷ bs) (x ∷ xs) all (suc i) d inside set = picked P bs xs (All-tail P x (items_where_true bs xs) all) i d (omega arith) set
picked P (false ∷ bs) (x ∷ xs) all (suc i) d inside set = picked P bs xs all i d (omega arith) set

kept_at : (P : Numbered → Type 0) (rows : List Numbered) → All P (strongest rows) → (i : ℕ) → i < length rows → stays rows i ≡ true → P (row_at rows i)
unfolding strongest
kept_at P rows all i inside stay =
    let none : Numbered = record { row = record { coefs = []; konst = pos 0 }; number = 0 } in
    let flag : get_or (map (stays rows) (range_with_len 0 (length rows))) i false ≡ stays rows i =
    get_or-map-range_with_len (stays rows) 0 (length rows) i i false inside (omega arith) in
    picked P (map (stays rows) (range_with_len 0 (length rows))) rows all i none inside (flag ∙ stay)

-- of the first rows that have the coefficients of row i, the strongest, the earliest of these
record Least (rows : List Numbered) (i m : ℕ) : Type 0 where
  place : ℕ
  inside : place < length rows
  coefs : (row_at rows place).row.coefs ≡ (row_at rows i).row.coefs
  at_most : (row_at rows place).row.konst ≤ℤ (row_at rows i).row.konst
  all : (l : ℕ) → l < m → (row_at rows l).row.coefs ≡ (row_at rows i).row.coefs → (row_at rows place).row.konst ≤ℤ (row_at rows l).row.konst
  earlier : (l : ℕ) → l < m → l < place → (row_at rows l).row.coefs ≡ (row_at rows i).row.coefs → (row_at rows place).row.konst <ℤ (row_at rows l).row.konst

-- a place below m + 1 is below m, or is m
next_place : (P : ℕ → Type 0) (m : ℕ) → ((l : ℕ) → l < m → P l) → P m → (l : ℕ) → l < suc m → P l
next_place P m before here l below =
    (elim (nat_eq l m) as (λ b. nat_eq l m ≡ b → P l) [
      | true ↦ λ e. let same : m ≡ l = grind (arith, nat_tests) in subst P same here
      | false ↦ λ e. let less : l < m = grind (arith, nat_tests) in before l less
    ]) refl

takes_new : (rows : List Numbered) (i m : ℕ) (so_far : Least rows i m) → m < length rows → (row_at rows m).row.coefs ≡ (row_at rows i).row.coefs
    → (row_at rows m).row.konst ≤ℤ (row_at rows so_far.place).row.konst
    → ((l : ℕ) → l < m → (row_at rows l).row.coefs ≡ (row_at rows i).row.coefs → (row_at rows m).row.konst <ℤ (row_at rows l).row.konst) → Least rows i (suc m)
takes_new rows i m so_far inside same below stronger =
    let new : ℤ = (row_at rows m).row.konst in
    let old : ℤ = (row_at rows so_far.place).row.konst in
    record {
      place = m;
      inside = inside;
      coefs = same;
      at_most = omega (arith, ints, below, so_far.at_most);
      all = next_place (λ l. (row_at rows l).row.coefs ≡ (row_at rows i).row.coefs → new ≤ℤ (row_at rows l).row.konst) m
          (λ l less e. weaken new (row_at rows l).row.konst (stronger l less e)) (λ e. itself new);
      earlier = λ l less lower e. stronger l (omega arith) e;
    }

keeps_old : (rows : List Numbered) (i m : ℕ) (so_far : Least rows i m)
    → ((row_at rows m).row.coefs ≡ (row_at rows i).row.coefs → (row_at rows so_far.place).row.konst ≤ℤ (row_at rows m).row.konst)
    → (m < so_far.place → (row_at rows m).row.coefs ≡ (row_at rows i).row.coefs → (row_at rows so_far.place).row.konst <ℤ (row_at rows m).row.konst) → Least rows i (suc m)
keeps_old rows i m so_far weaker strictly =
    let old : ℤ = (row_at rows so_far.place).row.konst in
    record {
      place = so_far.place;
      inside = so_far.inside;
      coefs = so_far.coefs;
      at_most = so_far.at_most;
      all = next_place (λ l. (row_at rows l).row.coefs ≡ (row_at rows i).row.coefs → old ≤ℤ (row_at rows l).row.konst) m so_far.all weaker;
      earlier = next_place (λ l. l < so_far.place → (row_at rows l).row.coefs ≡ (row_at rows i).row.coefs → old <ℤ (row_at rows l).row.konst) m so_far.earlier strictly;
    }

least : (rows : List Numbered) (i : ℕ) → i < length rows → (m : ℕ) → m ≤ length rows → Least rows i m
least rows i inside zero below = record {
  place = i;
  inside = inside;
  coefs = refl;
  at_most = itself (row_at rows i).row.konst;
  all = λ l less e. absurd (omega arith);
  earlier = λ l less lower e. absurd (omega arith);
}
least rows i inside (suc m) below =
    let so_far : Least rows i m = least rows i inside m (omega arith) in
    let old : ℤ = (row_at rows so_far.place).row.konst in
    let new : ℤ = (row_at rows m).row.konst in
    let decided = signed_items (row_at rows m).row.coefs (row_at rows i).row.coefs in
    (elim (pointwise int_eq (row_at rows m).row.coefs (row_at rows i).row.coefs) as (λ b. pointwise int_eq (row_at rows m).row.coefs (row_at rows i).row.coefs ≡ b → Least rows i (suc m)) [
      | false ↦ λ e.
          let other : (row_at rows m).row.coefs ≡ (row_at rows i).row.coefs → ⊥ = λ same. contrary (pointwise int_eq (row_at rows m).row.coefs (row_at rows i).row.coefs) (decided.1 same) e in
          keeps_old rows i m so_far (λ same. absurd (other same)) (λ lower same. absurd (other same))
      | true ↦ λ e.
          let same : (row_at rows m).row.coefs ≡ (row_at rows i).row.coefs = decided.0 e in
          by_lt_z new old
          (λ less. takes_new rows i m so_far (omega arith) same (weaken new old less) (λ l lower too. through new old (row_at rows l).row.konst less (so_far.all l lower too)))
          (λ above.
          by_lt_z old new
          (λ less. keeps_old rows i m so_far (λ _. above) (λ lower _. less))
          (λ equal.
          (elim (nat_lt m so_far.place) as (λ b. nat_lt m so_far.place ≡ b → Least rows i (suc m)) [
            | true ↦ λ lower.
                let before : m < so_far.place = grind (arith, nat_tests) in
                takes_new rows i m so_far (omega arith) same equal (λ l less too. after new old (row_at rows l).row.konst equal (so_far.earlier l less (omega (arith, before, less)) too))
            | false ↦ λ higher.
                let past : m < so_far.place → ⊥ = λ h. grind (arith, nat_tests) in
                keeps_old rows i m so_far (λ _. above) (λ lower _. absurd (past lower))
          ]) refl))
    ]) refl

-- that row stays
not_as_strong : (it other : Numbered) → (other.row.coefs ≡ it.row.coefs → it.row.konst <ℤ other.row.konst) → is_at_least_as_strong it other ≡ false
unfolding is_at_least_as_strong
not_as_strong it other weaker =
    let a = int_le other.row.konst it.row.konst in
    let b = pointwise int_eq other.row.coefs it.row.coefs in
    (elim (a && b) as (λ r. (a && b) ≡ r → r ≡ false) [
      | true ↦ λ e. absurd (at_most_not_less other.row.konst it.row.konst (left_of_and a b e) (weaker ((signed_items other.row.coefs it.row.coefs).0 (right_of_and a b e))))
      | false ↦ λ e. refl
    ]) refl

not_stronger : (it other : Numbered) → (other.row.coefs ≡ it.row.coefs → it.row.konst ≤ℤ other.row.konst) → is_stronger it other ≡ false
unfolding is_stronger
not_stronger it other weaker =
    let a = int_lt other.row.konst it.row.konst in
    let b = pointwise int_eq other.row.coefs it.row.coefs in
    (elim (a && b) as (λ r. (a && b) ≡ r → r ≡ false) [
      | true ↦ λ e. absurd (less_not_at_most other.row.konst it.row.konst (left_of_and a b e) (weaker ((signed_items other.row.coefs it.row.coefs).0 (right_of_and a b e))))
      | false ↦ λ e. refl
    ]) refl

stays_if : (rows : List Numbered) (place : ℕ) → is_constant (row_at rows place) ≡ false → list_any (is_at_least_as_strong (row_at rows place)) (take place rows) ≡ false
    → list_any (is_stronger (row_at rows place)) (drop (place + 1) rows) ≡ false → stays rows place ≡ true
unfolding stays
stays_if rows place varies before after = rw (varies, before, after) refl

least_stays : (rows : List Numbered) (i : ℕ) (it : Least rows i (length rows)) → is_constant (row_at rows i) ≡ false → stays rows it.place ≡ true
unfolding is_constant
least_stays rows i it varies =
    let none : Numbered = record { row = record { coefs = []; konst = pos 0 }; number = 0 } in
    let j = it.place in
    let mine = row_at rows j in
    let long = it.inside in
    let varies_too : list_all is_zero mine.row.coefs ≡ false = ap (list_all is_zero) it.coefs ∙ varies in
    let before : All (λ other. is_at_least_as_strong mine other ≡ false) (take j rows) =
    All-from_get_or (λ other. is_at_least_as_strong mine other ≡ false) (take j rows) none
    (λ k inside.
    let less : k < j = taken_below k j rows inside in
    let P : Numbered → Type 0 = λ other. is_at_least_as_strong mine other ≡ false in
    subst P (sym (get_or-take j rows k none less)) (not_as_strong mine (row_at rows k) (λ same. it.earlier k (omega (arith, less, long)) less (same ∙ it.coefs)))) in
    let after : All (λ other. is_stronger mine other ≡ false) (drop (j + 1) rows) =
    All-from_get_or (λ other. is_stronger mine other ≡ false) (drop (j + 1) rows) none
    (λ k inside.
    let there : (j + 1) + k < length rows = omega (arith, inside, length-drop (j + 1) rows) in
    let P : Numbered → Type 0 = λ other. is_stronger mine other ≡ false in
    subst P (sym (get_or-drop (j + 1) rows k none)) (not_stronger mine (row_at rows ((j + 1) + k)) (λ same. it.all ((j + 1) + k) there (same ∙ it.coefs)))) in
    stays_if rows j varies_too (list_any_none (is_at_least_as_strong mine) (take j rows) before) (list_any_none (is_stronger mine) (drop (j + 1) rows) after)

-- what a stronger row says, and what a row without coefficients says
meets_weaker : (point : RatPoint) (row other : Affine) → pos 0 <ℤ point.den → other.coefs ≡ row.coefs → other.konst ≤ℤ row.konst → Meets point other → Meets point row
meets_weaker point row other positive same below meets =
    let more : (point.den *ℤ other.konst) ≤ℤ (point.den *ℤ row.konst) = le-mul_left_int point.den other.konst row.konst (omega (arith, ints)) below in
    omega (arith, ints, more, mul_comm_int point.den other.konst, mul_comm_int point.den row.konst, ap (λ coefs. dot coefs point.nums) same, meets)

dot_zeros : (coefs ns : List ℤ) → list_all is_zero coefs ≡ true → dot coefs ns ≡ pos 0
dot_zeros [] ns zeros = refl
dot_zeros (x ∷ xs) [] zeros = refl
dot_zeros (x ∷ xs) (n ∷ ns) zeros =
    let here : x ≡ pos 0 = (Decides-int_eq x (pos 0)).0 (left_of_and (is_zero x) (list_all is_zero xs) zeros) in
    let rest : dot xs ns ≡ pos 0 = dot_zeros xs ns (right_of_and (is_zero x) (list_all is_zero xs) zeros) in
    rw (here, rest) (omega (arith, ints))

meets_constant : (point : RatPoint) (it : Numbered) → pos 0 <ℤ point.den → is_constant it ≡ true → is_refuting it ≡ false → Meets point it.row
unfolding is_constant is_refuting
meets_constant point it positive constant fine =
    let zeros : dot it.row.coefs point.nums ≡ pos 0 = dot_zeros it.row.coefs point.nums constant in
    let at_least : pos 0 ≤ℤ it.row.konst = not_negative it.row.konst (second_false (list_all is_zero it.row.coefs) (int_lt it.row.konst (pos 0)) constant fine) in
    let product : pos 0 ≤ℤ (it.row.konst *ℤ point.den) = mul-nonneg_int it.row.konst point.den at_least (omega (arith, ints)) in
    omega (arith, ints, zeros, product)

pub meets_untidied : (point : RatPoint) (rows : List Numbered) → pos 0 <ℤ point.den → position is_refuting rows ≡ None
    → All (λ it. Meets point it.row) (strongest rows) → All (λ it. Meets point it.row) rows
meets_untidied point rows positive unrefuted all =
    let none : Numbered = record { row = record { coefs = []; konst = pos 0 }; number = 0 } in
    All-from_get_or (λ it. Meets point it.row) rows none
    (λ i inside.
    (elim (is_constant (row_at rows i)) as (λ b. is_constant (row_at rows i) ≡ b → Meets point (row_at rows i).row) [
      | true ↦ λ e. meets_constant point (row_at rows i) positive e (position_none is_refuting rows unrefuted i none inside)
      | false ↦ λ e.
          let it : Least rows i (length rows) = least rows i inside (length rows) (omega arith) in
          meets_weaker point (row_at rows i).row (row_at rows it.place).row positive it.coefs it.at_most
          (kept_at (λ it. Meets point it.row) rows all it.place it.inside (least_stays rows i it e))
    ]) refl)

-- the rows before rounding
pub meets_all_rounded : (point : RatPoint) (next : ℕ) (rows : List Numbered) → All (λ it. Meets point it.row) (rounded_rows next rows) → All (λ it. Meets point (rounded it.row)) rows
unfolding rounded_rows
meets_all_rounded point next [] all = All-nil (λ it. Meets point (rounded it.row))
meets_all_rounded point next (it ∷ rest) all =
    let P : Numbered → Type 0 = λ it. Meets point it.row in
    let Q : Numbered → Type 0 = λ it. Meets point (rounded it.row) in
    let new : Numbered = record { row = rounded it.row; number = next } in
    let R : Affine → Type 0 = Meets point in
    (elim (is_rounded it.row) as (λ b. is_rounded it.row ≡ b → All P (cond b (new ∷ rounded_rows (next + 1) rest) (it ∷ rounded_rows next rest)) → All Q (it ∷ rest)) [
      | true ↦ λ e h. All-cons Q it rest (All-head P new (rounded_rows (next + 1) rest) h) (meets_all_rounded point (next + 1) rest (All-tail P new (rounded_rows (next + 1) rest) h))
      | false ↦ λ e h.
          All-cons Q it rest (subst R (sym (rounded-no it.row e)) (All-head P it (rounded_rows next rest) h)) (meets_all_rounded point next rest (All-tail P it (rounded_rows next rest) h))
    ]) refl all

pub meets_all : (point : RatPoint) (rows : List Numbered) → pos 0 <ℤ point.den → All (λ it. Meets point (rounded it.row)) rows → All (λ it. Meets point it.row) rows
meets_all point rows positive all = λ k d inside. meets_unrounded (get_or rows k d).row point positive (all k d inside)
