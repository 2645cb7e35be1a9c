-- The pairs of a stage: how many there are, and that each is a pair of rows of opposite signs.
use Rattle.std.proofs.Common.{◌≡◌, ℕ, ◌+◌, ◌*◌, ◌<◌, ap, refl, sym, ◌∙◌, arith, Bool, true, false, cond, not, ◌&&◌, ◌||◌, List, [], ◌∷◌, length, map, get_or, ℤ, pos, count_by, nat_eq, length-append, subst, Option, Some, None}
use Rattle.std.specs.List.{range_with_len, filter, flat_map, All}
use Rattle.std.proofs.lemmas.Int.{ints}
use Rattle.std.proofs.lemmas.List.{length-map}
use Rattle.std.proofs.lemmas.List.FromFn.{fill_by_all, get_or-range_with_len, length-range_with_len}
use Rattle.std.proofs.lemmas.List.Elements.{All-nil, All-append, All-map, All-filter, All-head, All-tail, filter_passes}
use Rattle.std.proofs.lemmas.List.Sums.{length-filter, sum_by-cons}
use Rattle.std.proofs.lemmas.List.Concat.{flat_map-cons}
use Rattle.std.proofs.lemmas.List.Filters.{length-filter_both}
use Rattle.farkas_find.specs.declared.numbered.Numbered.{Numbered}
use Rattle.farkas_find.specs.declared.choice.Pair.{Pair}
use Rattle.farkas_find.specs.Tidying.{row_at, coef_at, is_zero}
use Rattle.farkas_find.specs.Combining.{is_positive, is_negative, has_sign, places_where, pairs_of, all_pairs, is_other, partner, pairs_with, IsPair}
use Rattle.farkas_find.specs.Choosing.{count_with}
use Rattle.farkas_find.specs.declared.choice.Choice.{Choice}
use Rattle.farkas_find.specs.Stages.{rows_without, pairs_by, pairs_for}
use Rattle.farkas_find.specs.Inner.Nexts.{IsChoice, IsPairChoice}

-- a list is what its places give
count_by-map : {X Y : Type 0} (p : Y → Bool) (f : X → Y) (xs : List X) → count_by p (map f xs) ≡ count_by (λ x. p (f x)) xs
count_by-map p f [] = refl
count_by-map p f (x ∷ xs) =
    sum_by-cons (λ y. cond (p y) 1 0) (f x) (map f xs)
    ∙ ap (λ n. cond (p (f x)) 1 0 + n) (count_by-map p f xs)
    ∙ sym (sum_by-cons (λ y. cond (p (f y)) 1 0) x xs)

pub length-places_where : (test : Numbered → Bool) (rows : List Numbered) → length (places_where test rows) ≡ count_by test rows
length-places_where test rows =
    let here : List ℕ = range_with_len 0 (length rows) in
    let nothing : Numbered = record { row = record { coefs = []; konst = pos 0 }; number = 0 } in
    let same : rows ≡ map (row_at rows) here = fill_by_all (row_at rows) rows (length rows) nothing refl (λ k h. refl) in
    length-filter (λ place. test (row_at rows place)) here ∙ sym (count_by-map test (row_at rows) here) ∙ ap (count_by test) (sym same)

-- lists of one length, one after another
length-same : {X A : Type 0} (f : X → List A) (n : ℕ) → ((x : X) → length (f x) ≡ n) → (xs : List X) → length (flat_map f xs) ≡ length xs * n
length-same f n each [] = omega arith
length-same f n each (x ∷ xs) =
    let rest : length (flat_map f xs) ≡ length xs * n = length-same f n each xs in
    let whole : length (flat_map f (x ∷ xs)) ≡ length (f x) + length (flat_map f xs) = ap length (flat_map-cons f x xs) ∙ length-append (f x) (flat_map f xs) in
    omega (arith, whole, rest, each x)

pub length-all_pairs : (column : ℕ) (rows : List Numbered) → length (all_pairs column rows) ≡ count_with true column rows * count_with false column rows
unfolding all_pairs
length-all_pairs column rows =
    let pluses = places_where (λ it. has_sign true (coef_at column it)) rows in
    let minuses = places_where (λ it. has_sign false (coef_at column it)) rows in
    let each : (plus : ℕ) → length (pairs_of minuses plus) ≡ length minuses = λ (plus : ℕ). length-map minuses (λ (minus : ℕ). record { plus = plus; minus = minus }) in
    length-same (pairs_of minuses) (length minuses) each pluses
    ∙ ap (λ n. n * length minuses) (length-places_where (λ it. has_sign true (coef_at column it)) rows)
    ∙ ap (λ n. count_with true column rows * n) (length-places_where (λ it. has_sign false (coef_at column it)) rows)

-- the rows with the column and those without it are all rows
pub length-without : (column : ℕ) (rows : List Numbered) → length (rows_without column rows) + count_by (λ it. not (is_zero (coef_at column it))) rows ≡ length rows
unfolding rows_without
length-without column rows =
    let test : Numbered → Bool = λ it. is_zero (coef_at column it) in
    let with : Numbered → Bool = λ it. not (is_zero (coef_at column it)) in
    let both : length (filter test rows) + length (filter with rows) ≡ length rows = length-filter_both test with (λ x. refl) rows in
    omega (arith, both, length-filter with rows)

-- each pair is one of a row that is positive and a row that is negative
All-flat_map : {X A : Type 0} (P : A → Type 0) (f : X → List A) (xs : List X) → All (λ x. All P (f x)) xs → All P (flat_map f xs)
All-flat_map P f [] each = All-nil P
All-flat_map {X} {A} P f (x ∷ xs) each =
    let Q : X → Type 0 = λ y. All P (f y) in
    let whole : List A → Type 0 = All P in
    subst whole (sym (flat_map-cons f x xs)) (All-append P (f x) (flat_map f xs) (All-head Q x xs each) (All-flat_map P f xs (All-tail Q x xs each)))

-- a place among the rows at which a test passes
abbrev pub PassesAt : (Numbered → Bool) → List Numbered → ℕ → Type 0
PassesAt test rows place = (place < length rows) × (test (row_at rows place) ≡ true)

pub inside_range : (n : ℕ) → All (λ place. place < n) (range_with_len 0 n)
inside_range n k d inside =
    let here : k < n = omega (arith, inside, length-range_with_len 0 n) in
    rw (get_or-range_with_len 0 n k d here) (omega arith)

pub places_pass : (test : Numbered → Bool) (rows : List Numbered) → All (PassesAt test rows) (places_where test rows)
places_pass test rows k d inside =
    let p : ℕ → Bool = λ place. test (row_at rows place) in
    let here : List ℕ = range_with_len 0 (length rows) in
    (All-filter p (λ place. place < length rows) here (inside_range (length rows)) k d inside, filter_passes p here k d inside)

pub all_pairs-are_pairs : (column : ℕ) (rows : List Numbered) → All (IsPair column rows) (all_pairs column rows)
unfolding all_pairs
all_pairs-are_pairs column rows =
    let pluses = places_where (λ it. has_sign true (coef_at column it)) rows in
    let minuses = places_where (λ it. has_sign false (coef_at column it)) rows in
    let plus_pass : All (PassesAt (λ it. has_sign true (coef_at column it)) rows) pluses = places_pass (λ it. has_sign true (coef_at column it)) rows in
    let minus_pass : All (PassesAt (λ it. has_sign false (coef_at column it)) rows) minuses = places_pass (λ it. has_sign false (coef_at column it)) rows in
    let each : All (λ plus. All (IsPair column rows) (pairs_of minuses plus)) pluses =
    λ k d inside. All-map (IsPair column rows) (λ (minus : ℕ). record { plus = get_or pluses k d; minus = minus }) minuses
    (λ j e within. record {
      plus_inside = (plus_pass k d inside).0;
      minus_inside = (minus_pass j e within).0;
      positive = (plus_pass k d inside).1;
      negative = (minus_pass j e within).1;
    }) in
    All-flat_map (IsPair column rows) (pairs_of minuses) pluses each

other_sign : (z : ℤ) → not (is_zero z) ≡ true → is_positive z ≡ false → is_negative z ≡ true
other_sign z nonzero below = grind (arith, ints)

pub left_of_and : (a b : Bool) → (a && b) ≡ true → a ≡ true
left_of_and true b h = refl
left_of_and false b h = h

pub right_of_and : (a b : Bool) → (a && b) ≡ true → b ≡ true
right_of_and true b h = h
right_of_and false b h = absurd (cc)

partner-is_pair : (column : ℕ) (chosen : Pair) (rows : List Numbered) → IsPair column rows chosen
    → (place : ℕ) → place < length rows → is_other column chosen rows place ≡ true → IsPair column rows (partner column chosen rows place)
unfolding is_other partner
partner-is_pair column chosen rows pair place inside other =
    let coef : ℤ = coef_at column (row_at rows place) in
    let nonzero : not (is_zero coef) ≡ true = left_of_and (not (is_zero coef)) (not (nat_eq place chosen.plus || nat_eq place chosen.minus)) other in
    let above : is_positive coef ≡ true → IsPair column rows (record { plus = place; minus = chosen.minus }) =
    λ p. record { plus_inside = inside; minus_inside = pair.minus_inside; positive = p; negative = pair.negative } in
    let below : is_positive coef ≡ false → IsPair column rows (record { plus = chosen.plus; minus = place }) =
    λ p. record { plus_inside = pair.plus_inside; minus_inside = inside; positive = pair.positive; negative = other_sign coef nonzero p } in
    (elim (is_positive coef) as (λ b. is_positive coef ≡ b → IsPair column rows (cond b (record { plus = place; minus = chosen.minus }) (record { plus = chosen.plus; minus = place })))
    [ true ↦ above | false ↦ below ]) refl

pub pairs_with-are_pairs : (column : ℕ) (chosen : Pair) (rows : List Numbered) → IsPair column rows chosen → All (IsPair column rows) (pairs_with column chosen rows)
unfolding pairs_with
pairs_with-are_pairs column chosen rows pair =
    let here : List ℕ = range_with_len 0 (length rows) in
    let test : ℕ → Bool = is_other column chosen rows in
    All-map (IsPair column rows) (partner column chosen rows) (filter test here)
    (λ k d inside. partner-is_pair column chosen rows pair (get_or (filter test here) k d)
    (All-filter test (λ place. place < length rows) here (inside_range (length rows)) k d inside) (filter_passes test here k d inside))

pairs_by-are_pairs : (column : ℕ) (pair : Option Pair) (rows : List Numbered) → IsPairChoice column rows pair → All (IsPair column rows) (pairs_by column pair rows)
pairs_by-are_pairs column None rows is = all_pairs-are_pairs column rows
pairs_by-are_pairs column (Some chosen) rows is = pairs_with-are_pairs column chosen rows is

pub pairs_for-are_pairs : (width : ℕ) (rows : List Numbered) (choice : Choice) → IsChoice width rows choice → All (IsPair choice.column rows) (pairs_for choice rows)
pairs_for-are_pairs width rows choice is = pairs_by-are_pairs choice.column choice.pair rows is.pair
