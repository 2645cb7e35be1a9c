-- The choice of a stage is one of a column that may go, that a row has, and of a pair of rows in it.
use Rattle.std.proofs.Common.{◌≡◌, ℕ, zero, suc, ◌+◌, ◌*◌, ◌<◌, refl, sym, ◌∙◌, subst, arith, Bool, true, false, cond, ◌&&◌, List, [], ◌∷◌, length, get_or, ℤ, pos, neg_ℤ, Option, Some, None, count_by, nat_lt}
use Rattle.std.specs.Option.{option_or, option_map}
use Rattle.std.specs.List.{All, range_with_len, position, fold}
use Rattle.std.specs.Ordering.{int_eq}
use Rattle.std.specs.Cmp.Lexicographic.{pointwise}
use Rattle.std.proofs.lemmas.Int.{ints}
use Rattle.std.proofs.lemmas.Bool.Decides.{Decides-int_eq}
use Rattle.std.proofs.lemmas.List.Elements.{All-head, All-tail, All-filter}
use Rattle.std.proofs.lemmas.List.Sums.{sum_by-cons}
use Rattle.std.proofs.lemmas.List.Quantifiers.{position-Some}
use Rattle.farkas_find.specs.declared.numbered.Numbered.{Numbered}
use Rattle.farkas_find.specs.declared.choice.Pair.{Pair}
use Rattle.farkas_find.specs.declared.choice.Choice.{Choice}
use Rattle.farkas_find.specs.Tidying.{row_at, coef_at, is_zero}
use Rattle.farkas_find.specs.Combining.{is_positive, is_negative, IsPair}
use Rattle.farkas_find.specs.Choosing.{count_with, first_of, is_negative_of, negative_place, oriented, pair_at, pair_in, choice_with, choice_by_pair, is_live, better_of, column_by_count, choice_of, is_free, free_columns}
use Rattle.farkas_find.specs.Answers.{choice_in}
use Rattle.farkas_find.specs.Inner.Nexts.{IsPairChoice, IsChoice}
use Rattle.farkas_find.proofs.Paired.{inside_range, left_of_and, right_of_and}

first_of-Some : {A B : Type 0} (P : A → Type 0) (give : A → Option B) (xs : List A) (v : B) → All P xs → first_of give xs ≡ Some v
    → (x : A) × P x × (give x ≡ Some v)
first_of-Some P give [] v all e = absurd (cc)
first_of-Some {A} {B} P give (x ∷ xs) v all e =
    (elim (give x) as (λ r. give x ≡ r → option_or r (first_of give xs) ≡ Some v → (y : A) × P y × (give y ≡ Some v)) [
      | Some w ↦ λ is got. (x, All-head P x xs all, is ∙ got)
      | None ↦ λ is got. first_of-Some P give xs v (All-tail P x xs all) got
    ]) refl e

-- the exact negative of a row has the negative of its coefficient
negative_entries : (xs ys : List ℤ) → pointwise (λ x y. int_eq x (neg_ℤ y)) xs ys ≡ true → (i : ℕ) → get_or xs i (pos 0) ≡ neg_ℤ (get_or ys i (pos 0))
negative_entries [] [] h i = refl
negative_entries [] (y ∷ ys) h i = absurd (cc)
negative_entries (x ∷ xs) [] h i = absurd (cc)
negative_entries (x ∷ xs) (y ∷ ys) h zero = (Decides-int_eq x (neg_ℤ y)).0 (left_of_and (int_eq x (neg_ℤ y)) (pointwise (λ x y. int_eq x (neg_ℤ y)) xs ys) h)
negative_entries (x ∷ xs) (y ∷ ys) h (suc i) = negative_entries xs ys (right_of_and (int_eq x (neg_ℤ y)) (pointwise (λ x y. int_eq x (neg_ℤ y)) xs ys) h) i

negative_coef : (column : ℕ) (it other : Numbered) → is_negative_of it other ≡ true → coef_at column other ≡ neg_ℤ (coef_at column it)
unfolding is_negative_of
negative_coef column it other h =
    negative_entries other.row.coefs it.row.coefs (right_of_and (int_eq other.row.konst (neg_ℤ it.row.konst)) (pointwise (λ x y. int_eq x (neg_ℤ y)) other.row.coefs it.row.coefs) h) column

signs : (z w : ℤ) → is_zero z ≡ false → w ≡ neg_ℤ z → (is_positive z ≡ true → is_negative w ≡ true) × (is_positive z ≡ false → (is_negative z ≡ true) × (is_positive w ≡ true))
signs z w nonzero is = (λ p. grind (arith, ints), λ p. (grind (arith, ints), grind (arith, ints)))

oriented-is_pair : (column : ℕ) (rows : List Numbered) (place other : ℕ) → place < length rows → other < length rows → is_zero (coef_at column (row_at rows place)) ≡ false
    → coef_at column (row_at rows other) ≡ neg_ℤ (coef_at column (row_at rows place)) → IsPair column rows (oriented column rows place other)
unfolding oriented
oriented-is_pair column rows place other here there nonzero negative =
    let z : ℤ = coef_at column (row_at rows place) in
    let w : ℤ = coef_at column (row_at rows other) in
    let both = signs z w nonzero negative in
    (elim (is_positive z) as (λ b. is_positive z ≡ b → IsPair column rows (cond b (record { plus = place; minus = other }) (record { plus = other; minus = place }))) [
      | true ↦ λ p. record { plus_inside = here; minus_inside = there; positive = p; negative = both.0 p }
      | false ↦ λ p. record { plus_inside = there; minus_inside = here; positive = (both.1 p).1; negative = (both.1 p).0 }
    ]) refl

pair_at-Some : (column : ℕ) (rows : List Numbered) (place : ℕ) (pair : Pair) → place < length rows → pair_at column rows place ≡ Some pair → IsPair column rows pair
unfolding pair_at negative_place
pair_at-Some column rows place pair here e =
    let z : ℤ = coef_at column (row_at rows place) in
    let test : Numbered → Bool = is_negative_of (row_at rows place) in
    (elim (is_zero z) as (λ b. is_zero z ≡ b → cond b None (option_map (oriented column rows place) (position test rows)) ≡ Some pair → IsPair column rows pair) [
      | true ↦ λ zero_is none. absurd (cc)
      | false ↦ λ nonzero some.
          (elim (position test rows) as (λ r. position test rows ≡ r → option_map (oriented column rows place) r ≡ Some pair → IsPair column rows pair) [
            | None ↦ λ is none. absurd (cc)
            | Some other ↦ λ is got.
                let found = position-Some test rows other (record { row = record { coefs = []; konst = pos 0 }; number = 0 }) is in
                let made : IsPair column rows (oriented column rows place other) =
                oriented-is_pair column rows place other here found.0 nonzero (negative_coef column (row_at rows place) (row_at rows other) found.1) in
                let P : Pair → Type 0 = IsPair column rows in
                let same : oriented column rows place other ≡ pair = cc in
                subst P same made
          ]) refl some
    ]) refl e

pub pair_in-Some : (column : ℕ) (rows : List Numbered) (pair : Pair) → pair_in column rows ≡ Some pair → IsPair column rows pair
unfolding pair_in
pair_in-Some column rows pair e =
    let found = first_of-Some (λ place. place < length rows) (pair_at column rows) (range_with_len 0 (length rows)) pair (inside_range (length rows)) e in
    pair_at-Some column rows found.0 pair found.1 found.2

-- a column that a row has
abbrev pub IsGone : ℕ → List Numbered → Type 0
IsGone column rows = All (λ it. coef_at column it ≡ pos 0) rows

pub record IsGoodChoice (P : ℕ → Type 0) (rows : List Numbered) (choice : Choice) : Type 0 where
  pub may_go : P choice.column
  pub pair : IsPairChoice choice.column rows choice.pair
  pub there : ¬ IsGone choice.column rows

pair_there : (column : ℕ) (rows : List Numbered) (pair : Pair) → IsPair column rows pair → ¬ IsGone column rows
pair_there column rows pair is gone =
    let nothing : Numbered = record { row = record { coefs = []; konst = pos 0 }; number = 0 } in
    let zero_there : coef_at column (row_at rows pair.plus) ≡ pos 0 = gone pair.plus nothing is.plus_inside in
    let positive : is_positive (pos 0) ≡ true = subst (λ (z : ℤ). is_positive z ≡ true) zero_there is.positive in
    absurd (cc)

by_pair-Some : (P : ℕ → Type 0) (columns : List ℕ) (rows : List Numbered) (choice : Choice) → All P columns → choice_by_pair columns rows ≡ Some choice → IsGoodChoice P rows choice
unfolding choice_by_pair
by_pair-Some P columns rows choice all e =
    let found = first_of-Some P (choice_with rows) columns choice all e in
    let column : ℕ = found.0 in
    (elim (pair_in column rows) as (λ r. pair_in column rows ≡ r → option_map (λ pair. record { column = column; pair = Some pair }) r ≡ Some choice → IsGoodChoice P rows choice) [
      | None ↦ λ is none. absurd (cc)
      | Some pair ↦ λ is got.
          let in_pair : IsPair column rows pair = pair_in-Some column rows pair is in
          let made : Choice = record { column = column; pair = Some pair } in
          let good : IsGoodChoice P rows made = record { may_go = found.1; pair = in_pair; there = pair_there column rows pair in_pair } in
          let same : made ≡ choice = cc in
          let G : Choice → Type 0 = IsGoodChoice P rows in
          subst G same good
    ]) refl found.2

-- a column in which no row is positive or negative is gone
count_none : (p : Numbered → Bool) (rows : List Numbered) → All (λ it. p it ≡ false) rows → count_by p rows ≡ 0
count_none p [] none = refl
count_none p (it ∷ rest) none =
    let head : p it ≡ false = All-head (λ it. p it ≡ false) it rest none in
    let others : count_by p rest ≡ 0 = count_none p rest (All-tail (λ it. p it ≡ false) it rest none) in
    let bit : ℕ = cond (p it) 1 0 in
    let no_bit : bit ≡ 0 = subst (λ (b : Bool). ◌≡◌ {A = ℕ} (cond b 1 0) 0) (sym head) refl in
    let both : bit + count_by p rest ≡ 0 = omega (arith, no_bit, others) in
    sum_by-cons (λ x. cond (p x) 1 0) it rest ∙ both

pub not_gone : (column : ℕ) (rows : List Numbered) → is_live column rows ≡ true → ¬ IsGone column rows
not_gone column rows live gone =
    let plus : count_by (λ it. is_positive (coef_at column it)) rows ≡ 0 = count_none (λ it. is_positive (coef_at column it)) rows (λ k d inside. rw (gone k d inside) refl) in
    let minus : count_by (λ it. is_negative (coef_at column it)) rows ≡ 0 = count_none (λ it. is_negative (coef_at column it)) rows (λ k d inside. rw (gone k d inside) refl) in
    let zero_sum : count_with true column rows + count_with false column rows ≡ 0 = omega (arith, plus, minus) in
    let none : nat_lt 0 0 ≡ true = subst (λ (n : ℕ). nat_lt 0 n ≡ true) zero_sum live in
    absurd (cc)

abbrev BestIs : (ℕ → Type 0) → List Numbered → Option ℕ → Type 0
BestIs P rows None = Unit {0}
BestIs P rows (Some column) = P column × (is_live column rows ≡ true)

better-is : (P : ℕ → Type 0) (rows : List Numbered) (best : Option ℕ) (column : ℕ) → P column → BestIs P rows best → BestIs P rows (better_of rows best column)
better-is P rows None column p is =
    (elim (is_live column rows) as (λ b. is_live column rows ≡ b → BestIs P rows (cond b (Some column) None)) [ true ↦ λ e. (p, e) | false ↦ λ e. tt ]) refl
better-is P rows (Some best) column p is =
    let fewer : Bool = nat_lt (count_with true column rows * count_with false column rows) (count_with true best rows * count_with false best rows) in
    (elim (is_live column rows && fewer) as (λ b. (is_live column rows && fewer) ≡ b → BestIs P rows (cond b (Some column) (Some best))) [
      | true ↦ λ e. (p, left_of_and (is_live column rows) fewer e)
      | false ↦ λ e. is
    ]) refl

best-is : (P : ℕ → Type 0) (rows : List Numbered) (best : Option ℕ) (columns : List ℕ) → All P columns → BestIs P rows best → BestIs P rows (fold (better_of rows) best columns)
best-is P rows best [] all is = is
best-is P rows best (column ∷ columns) all is =
    best-is P rows (better_of rows best column) columns (All-tail P column columns all) (better-is P rows best column (All-head P column columns all) is)

by_count-Some : (P : ℕ → Type 0) (columns : List ℕ) (rows : List Numbered) (choice : Choice) → All P columns
    → option_map (λ column. record { column = column; pair = None }) (column_by_count columns rows) ≡ Some choice → IsGoodChoice P rows choice
unfolding column_by_count
by_count-Some P columns rows choice all e =
    (elim (fold (better_of rows) None columns) as (λ r. BestIs P rows r → option_map (λ column. record { column = column; pair = None }) r ≡ Some choice → IsGoodChoice P rows choice) [
      | None ↦ λ is none. absurd (cc)
      | Some column ↦ λ is got.
          let made : Choice = record { column = column; pair = None } in
          let good : IsGoodChoice P rows made = record { may_go = is.0; pair = tt; there = not_gone column rows is.1 } in
          let same : made ≡ choice = cc in
          let G : Choice → Type 0 = IsGoodChoice P rows in
          subst G same good
    ]) (best-is P rows None columns all tt) e

pub choice_of-Some : (P : ℕ → Type 0) (columns : List ℕ) (rows : List Numbered) (choice : Choice) → All P columns → choice_of columns rows ≡ Some choice → IsGoodChoice P rows choice
unfolding choice_of
choice_of-Some P columns rows choice all e =
    (elim (choice_by_pair columns rows) as (λ r. choice_by_pair columns rows ≡ r → option_or r (option_map (λ column. record { column = column; pair = None }) (column_by_count columns rows)) ≡ Some choice → IsGoodChoice P rows choice) [
      | Some found ↦ λ is got. by_pair-Some P columns rows choice all (is ∙ got)
      | None ↦ λ is got. by_count-Some P columns rows choice all got
    ]) refl e

pub free_columns-inside : (kept : Option ℕ) (width : ℕ) → All (λ column. column < width) (free_columns kept width)
unfolding free_columns
free_columns-inside kept width = All-filter (is_free kept) (λ column. column < width) (range_with_len 0 width) (inside_range width)

pub choice-is_choice : (kept : Option ℕ) (width : ℕ) (rows : List Numbered) (choice : Choice) → choice_of (free_columns kept width) rows ≡ Some choice → IsChoice width rows choice
choice-is_choice kept width rows choice e =
    let good = choice_of-Some (λ column. column < width) (free_columns kept width) rows choice (free_columns-inside kept width) e in
    record { inside = good.may_go; pair = good.pair }

pair_in-choice : (column : ℕ) (rows : List Numbered) → IsPairChoice column rows (pair_in column rows)
pair_in-choice column rows =
    (elim (pair_in column rows) as (λ r. pair_in column rows ≡ r → IsPairChoice column rows r) [ None ↦ λ e. tt | Some pair ↦ λ e. pair_in-Some column rows pair e ]) refl

pub choice_in-is_choice : (width column : ℕ) (rows : List Numbered) → column < width → IsChoice width rows (choice_in column rows)
unfolding choice_in
choice_in-is_choice width column rows inside = record { inside = inside; pair = pair_in-choice column rows }
