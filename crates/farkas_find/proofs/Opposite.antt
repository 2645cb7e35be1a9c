-- The pair that a choice names is one of exact negatives.
use Rattle.std.proofs.Common.{◌≡◌, ◌∙◌, ℕ, zero, suc, ap, refl, subst, arith, Bool, true, false, cond, List, [], ◌∷◌, length, get_or, Option, Some, None, ℤ, pos, ◌+ℤ◌, ◌*ℤ◌, neg_ℤ}
use Rattle.std.specs.List.{range_with_len, position}
use Rattle.std.specs.Option.{option_or, option_map}
use Rattle.std.specs.Ordering.{int_eq}
use Rattle.std.specs.Cmp.Lexicographic.{pointwise}
use Rattle.std.proofs.lemmas.Int.{ints}
use Rattle.std.proofs.lemmas.Bool.Decides.{Decides-int_eq}
use Rattle.std.proofs.lemmas.List.Quantifiers.{position-Some}
use Rattle.az_lin.specs.Affine.{dot}
use Rattle.az_lin.specs.RationalPoint.{value_over}
use Rattle.az_lin.specs.declared.step.RatPoint.{RatPoint}
use Rattle.az_lin.proofs.Integers.{add-mul_int}
use Rattle.farkas_find.specs.declared.numbered.Numbered.{Numbered}
use Rattle.farkas_find.specs.declared.choice.Pair.{Pair}
use Rattle.farkas_find.specs.declared.choice.Choice.{Choice}
use Rattle.farkas_find.specs.Tidying.{row_at, coef_at, is_zero}
use Rattle.farkas_find.specs.Combining.{is_positive}
use Rattle.farkas_find.specs.Choosing.{first_of, is_negative_of, negative_place, oriented, pair_at, pair_in, choice_with, choice_by_pair, column_by_count, choice_of}
use Rattle.farkas_find.proofs.Room.{AreOpposite}
use Rattle.farkas_find.proofs.Paired.{left_of_and, right_of_and}

sum_of_negative : (x y : ℤ) → int_eq x (neg_ℤ y) ≡ true → x +ℤ y ≡ pos 0
sum_of_negative x y h =
    let is : x ≡ neg_ℤ y = (Decides-int_eq x (neg_ℤ y)).0 h in
    let zero_sum : neg_ℤ y +ℤ y ≡ pos 0 = omega (arith, ints) in
    ap (λ (z : ℤ). z +ℤ y) is ∙ zero_sum

product_gone : (x y z : ℤ) → x +ℤ y ≡ pos 0 → (x *ℤ z) +ℤ (y *ℤ z) ≡ pos 0
product_gone x y z zero_sum =
    let none : (x +ℤ y) *ℤ z ≡ pos 0 *ℤ z = ap (λ (w : ℤ). w *ℤ z) zero_sum in
    omega (arith, ints, none, add-mul_int x y z)

entries_gone : (xs ys : List ℤ) → pointwise (λ x y. int_eq x (neg_ℤ y)) xs ys ≡ true → (k : ℕ) → get_or xs k (pos 0) +ℤ get_or ys k (pos 0) ≡ pos 0
entries_gone [] [] h k = omega (arith, ints)
entries_gone [] (y ∷ ys) h k = absurd (cc)
entries_gone (x ∷ xs) [] h k = absurd (cc)
entries_gone (x ∷ xs) (y ∷ ys) h zero = sum_of_negative x y (left_of_and (int_eq x (neg_ℤ y)) (pointwise (λ x y. int_eq x (neg_ℤ y)) xs ys) h)
entries_gone (x ∷ xs) (y ∷ ys) h (suc k) = entries_gone xs ys (right_of_and (int_eq x (neg_ℤ y)) (pointwise (λ x y. int_eq x (neg_ℤ y)) xs ys) h) k

dot_gone : (xs ys ns : List ℤ) → pointwise (λ x y. int_eq x (neg_ℤ y)) xs ys ≡ true → dot xs ns +ℤ dot ys ns ≡ pos 0
dot_gone [] [] ns h = omega (arith, ints)
dot_gone [] (y ∷ ys) ns h = absurd (cc)
dot_gone (x ∷ xs) [] ns h = absurd (cc)
dot_gone (x ∷ xs) (y ∷ ys) [] h = omega (arith, ints)
dot_gone (x ∷ xs) (y ∷ ys) (n ∷ ns) h =
    let here : x +ℤ y ≡ pos 0 = sum_of_negative x y (left_of_and (int_eq x (neg_ℤ y)) (pointwise (λ x y. int_eq x (neg_ℤ y)) xs ys) h) in
    let rest : dot xs ns +ℤ dot ys ns ≡ pos 0 = dot_gone xs ys ns (right_of_and (int_eq x (neg_ℤ y)) (pointwise (λ x y. int_eq x (neg_ℤ y)) xs ys) h) in
    omega (arith, ints, rest, product_gone x y n here)

coefs_gone : (it other : Numbered) → is_negative_of it other ≡ true → (column : ℕ) → coef_at column other +ℤ coef_at column it ≡ pos 0
unfolding is_negative_of
coefs_gone it other h column =
    entries_gone other.row.coefs it.row.coefs
    (right_of_and (int_eq other.row.konst (neg_ℤ it.row.konst)) (pointwise (λ x y. int_eq x (neg_ℤ y)) other.row.coefs it.row.coefs) h) column

values_gone : (it other : Numbered) → is_negative_of it other ≡ true → (point : RatPoint) → value_over other.row point +ℤ value_over it.row point ≡ pos 0
unfolding is_negative_of
values_gone it other h point =
    let konst : other.row.konst +ℤ it.row.konst ≡ pos 0 = sum_of_negative other.row.konst it.row.konst
    (left_of_and (int_eq other.row.konst (neg_ℤ it.row.konst)) (pointwise (λ x y. int_eq x (neg_ℤ y)) other.row.coefs it.row.coefs) h) in
    let rest : dot other.row.coefs point.nums +ℤ dot it.row.coefs point.nums ≡ pos 0 = dot_gone other.row.coefs it.row.coefs point.nums
    (right_of_and (int_eq other.row.konst (neg_ℤ it.row.konst)) (pointwise (λ x y. int_eq x (neg_ℤ y)) other.row.coefs it.row.coefs) h) in
    omega (arith, ints, rest, product_gone other.row.konst it.row.konst point.den konst)

swapped : (x y : ℤ) → x +ℤ y ≡ pos 0 → y +ℤ x ≡ pos 0
swapped x y h = omega (arith, ints)

oriented-opposite : (column : ℕ) (rows : List Numbered) (place other : ℕ) → is_negative_of (row_at rows place) (row_at rows other) ≡ true → AreOpposite rows (oriented column rows place other)
unfolding oriented
oriented-opposite column rows place other h =
    let it = row_at rows place in
    let that = row_at rows other in
    let low : AreOpposite rows (record { plus = place; minus = other }) = record { coefs = coefs_gone it that h; values = values_gone it that h } in
    let high : AreOpposite rows (record { plus = other; minus = place }) = record {
      coefs = λ k. swapped (coef_at k that) (coef_at k it) (coefs_gone it that h k);
      values = λ p. swapped (value_over that.row p) (value_over it.row p) (values_gone it that h p);
    } in
    elim (is_positive (coef_at column it)) as (λ b. AreOpposite rows (cond b (record { plus = place; minus = other }) (record { plus = other; minus = place }))) [ true ↦ low | false ↦ high ]

pair_at-opposite : (column : ℕ) (rows : List Numbered) (place : ℕ) (pair : Pair) → pair_at column rows place ≡ Some pair → AreOpposite rows pair
unfolding pair_at negative_place
pair_at-opposite column rows place pair e =
    let z : ℤ = coef_at column (row_at rows place) in
    let test : Numbered → Bool = is_negative_of (row_at rows place) in
    (elim (is_zero z) as (λ b. cond b None (option_map (oriented column rows place) (position test rows)) ≡ Some pair → AreOpposite rows pair) [
      | true ↦ λ none. absurd (cc)
      | false ↦ λ some.
          (elim (position test rows) as (λ r. position test rows ≡ r → option_map (oriented column rows place) r ≡ Some pair → AreOpposite rows pair) [
            | None ↦ λ is none. absurd (cc)
            | Some other ↦ λ is got.
                let found = position-Some test rows other (record { row = record { coefs = []; konst = pos 0 }; number = 0 }) is in
                let made : AreOpposite rows (oriented column rows place other) = oriented-opposite column rows place other found.1 in
                let P : Pair → Type 0 = AreOpposite rows in
                let same : oriented column rows place other ≡ pair = cc in
                subst P same made
          ]) refl some
    ]) e

first_of-gives : {A B : Type 0} (give : A → Option B) (xs : List A) (v : B) → first_of give xs ≡ Some v → (x : A) × (give x ≡ Some v)
first_of-gives give [] v e = absurd (cc)
first_of-gives {A} {B} give (x ∷ xs) v e =
    (elim (give x) as (λ r. give x ≡ r → option_or r (first_of give xs) ≡ Some v → (y : A) × (give y ≡ Some v)) [
      | Some w ↦ λ is got. (x, is ∙ got)
      | None ↦ λ is got. first_of-gives give xs v got
    ]) refl e

abbrev pub IsOppositeChoice : List Numbered → Option Pair → Type 0
IsOppositeChoice rows None = Unit {0}
IsOppositeChoice rows (Some pair) = AreOpposite rows pair

by_pair-opposite : (columns : List ℕ) (rows : List Numbered) (choice : Choice) → choice_by_pair columns rows ≡ Some choice → IsOppositeChoice rows choice.pair
unfolding choice_by_pair pair_in
by_pair-opposite columns rows choice e =
    let found = first_of-gives (choice_with rows) columns choice e in
    let column : ℕ = found.0 in
    (elim (pair_in column rows) as (λ r. pair_in column rows ≡ r → option_map (λ pair. record { column = column; pair = Some pair }) r ≡ Some choice → IsOppositeChoice rows choice.pair) [
      | None ↦ λ is none. absurd (cc)
      | Some pair ↦ λ is got.
          let place = first_of-gives (pair_at column rows) (range_with_len 0 (length rows)) pair is in
          let opposite : AreOpposite rows pair = pair_at-opposite column rows place.0 pair place.1 in
          let made : Choice = record { column = column; pair = Some pair } in
          let same : made ≡ choice = cc in
          let P : Choice → Type 0 = λ c. IsOppositeChoice rows c.pair in
          subst P same opposite
    ]) refl found.1

by_count-opposite : (rows : List Numbered) (choice : Choice) (best : Option ℕ) → option_map (λ column. record { column = column; pair = None }) best ≡ Some choice
    → IsOppositeChoice rows choice.pair
by_count-opposite rows choice None e = absurd (cc)
by_count-opposite rows choice (Some column) e =
    let made : Choice = record { column = column; pair = None } in
    let same : made ≡ choice = cc in
    let P : Choice → Type 0 = λ c. IsOppositeChoice rows c.pair in
    subst P same tt

pub choice_of-opposite : (columns : List ℕ) (rows : List Numbered) (choice : Choice) → choice_of columns rows ≡ Some choice → IsOppositeChoice rows choice.pair
unfolding choice_of
choice_of-opposite columns rows choice e =
    (elim (choice_by_pair columns rows) as (λ r. choice_by_pair columns rows ≡ r
    → option_or r (option_map (λ column. record { column = column; pair = None }) (column_by_count columns rows)) ≡ Some choice → IsOppositeChoice rows choice.pair) [
      | Some found ↦ λ is got. by_pair-opposite columns rows choice (is ∙ got)
      | None ↦ λ is got. by_count-opposite rows choice (column_by_count columns rows) got
    ]) refl e
