-- What holds of every row of a stage, and of each row that rounding and combining make of them, holds in the next stage.
use Rattle.std.proofs.Common.{◌≡◌, ℕ, suc, ◌+◌, ◌≤◌, ap, refl, ◌∙◌, arith, Bool, true, false, cond, List, [], ◌∷◌, length, map, pos, length-append}
use Rattle.std.specs.List.{All, items_where_true, range_with_len}
use Rattle.std.proofs.lemmas.List.{length-map}
use Rattle.farkas_find.proofs.Numbering.{length-numbered_from}
use Rattle.std.proofs.lemmas.List.Elements.{All-nil, All-cons, All-append, All-map, All-filter, All-head, All-tail}
use Rattle.az_lin.specs.Affine.{Affine}
use Rattle.az_lin.specs.Combination.{quotient}
use Rattle.az_lin.specs.CommonDivisor.{gcd_of_all}
use Rattle.farkas_find.specs.declared.numbered.Numbered.{Numbered}
use Rattle.farkas_find.specs.declared.choice.Choice.{Choice}
use Rattle.farkas_find.specs.Tidying.{coef_at, is_zero, is_rounded, rounded, rounded_rows, stays, strongest, tidied}
use Rattle.farkas_find.specs.Combining.{numbered_from, combined_at}
use Rattle.farkas_find.specs.Stages.{rows_without, pairs_for, next_rows}

-- rounding a row that has a divisor keeps what is said of it
abbrev pub KeptByRounding : (Affine → Type 0) → Type 0
KeptByRounding Q = (row : Affine) → is_rounded row ≡ true → Q row → Q (quotient row (pos (gcd_of_all row.coefs)))

abbrev pub Every : (Affine → Type 0) → List Numbered → Type 0
Every Q rows = All (λ it. Q it.row) rows

pub kept_by_rounded : (Q : Affine → Type 0) → KeptByRounding Q → (row : Affine) → Q row → Q (rounded row)
unfolding rounded
kept_by_rounded Q keeps row q =
    (elim (is_rounded row) as (λ b. is_rounded row ≡ b → Q (cond b (quotient row (pos (gcd_of_all row.coefs))) row)) [ true ↦ λ e. keeps row e q | false ↦ λ e. q ]) refl

pub Every-rounded_rows : (Q : Affine → Type 0) → KeptByRounding Q → (next : ℕ) (rows : List Numbered) → Every Q rows → Every Q (rounded_rows next rows)
unfolding rounded_rows
Every-rounded_rows Q keeps next [] all = All-nil (λ it. Q it.row)
Every-rounded_rows Q keeps next (it ∷ rest) all =
    let P : Numbered → Type 0 = λ it. Q it.row in
    let new : Numbered = record { row = rounded it.row; number = next } in
    let head : P new = kept_by_rounded Q keeps it.row (All-head P it rest all) in
    let others : All P rest = All-tail P it rest all in
    elim (is_rounded it.row) as (λ b. All P (cond b (new ∷ rounded_rows (next + 1) rest) (it ∷ rounded_rows next rest))) [
      | true ↦ All-cons P new (rounded_rows (next + 1) rest) head (Every-rounded_rows Q keeps (next + 1) rest others)
      | false ↦ All-cons P it (rounded_rows next rest) (All-head P it rest all) (Every-rounded_rows Q keeps next rest others)
    ]

pub All-picked : {X : Type 0} (P : X → Type 0) (bs : List Bool) (xs : List X) → All P xs → All P (items_where_true bs xs)
All-picked P [] xs all = All-nil P
All-picked P (b ∷ bs) [] all = All-nil P
All-picked P (true ∷ bs) (x ∷ xs) all = All-cons P x (items_where_true bs xs) (All-head P x xs all) (All-picked P bs xs (All-tail P x xs all))
All-picked P (false ∷ bs) (x ∷ xs) all = All-picked P bs xs (All-tail P x xs all)

pub Every-tidied : (Q : Affine → Type 0) → KeptByRounding Q → (next : ℕ) (rows : List Numbered) → Every Q rows → Every Q (tidied next rows)
unfolding strongest
Every-tidied Q keeps next rows all =
    All-picked (λ it. Q it.row) (map (stays (rounded_rows next rows)) (range_with_len 0 (length (rounded_rows next rows)))) (rounded_rows next rows)
    (Every-rounded_rows Q keeps next rows all)

Every-numbered_from : (Q : Affine → Type 0) (next : ℕ) (rows : List Affine) → All Q rows → Every Q (numbered_from next rows)
unfolding numbered_from
Every-numbered_from Q next [] all = All-nil (λ it. Q it.row)
Every-numbered_from Q next (row ∷ rows) all =
    All-cons (λ it. Q it.row) (record { row = row; number = next }) (numbered_from (next + 1) rows) (All-head Q row rows all)
    (Every-numbered_from Q (next + 1) rows (All-tail Q row rows all))

pub Every-given : (Q : Affine → Type 0) (rows : List Affine) → All Q rows → Every Q (numbered_from 0 rows)
Every-given Q rows all = Every-numbered_from Q 0 rows all

pub Every-next_rows : (Q : Affine → Type 0) (choice : Choice) (next : ℕ) (rows : List Numbered) → Every Q (rows_without choice.column rows)
    → All (λ pair. Q (combined_at choice.column rows pair)) (pairs_for choice rows) → Every Q (next_rows choice next rows)
unfolding next_rows
Every-next_rows Q choice next rows all pairs =
    All-append (λ it. Q it.row) (rows_without choice.column rows) (numbered_from next (map (combined_at choice.column rows) (pairs_for choice rows))) all
    (Every-numbered_from Q next (map (combined_at choice.column rows) (pairs_for choice rows)) (All-map Q (combined_at choice.column rows) (pairs_for choice rows) pairs))

pub Every-without : (Q : Affine → Type 0) (column : ℕ) (rows : List Numbered) → Every Q rows → Every Q (rows_without column rows)
unfolding rows_without
Every-without Q column rows all = All-filter (λ it. is_zero (coef_at column it)) (λ it. Q it.row) rows all

-- tidying leaves no more rows than there were
length-picked : {X : Type 0} (bs : List Bool) (xs : List X) → length (items_where_true bs xs) ≤ length xs
length-picked [] xs = omega arith
length-picked (b ∷ bs) [] = omega arith
length-picked (true ∷ bs) (x ∷ xs) = omega (arith, length-picked bs xs)
length-picked (false ∷ bs) (x ∷ xs) = omega (arith, length-picked bs xs)

length-rounded_rows : (next : ℕ) (rows : List Numbered) → length (rounded_rows next rows) ≡ length rows
unfolding rounded_rows
length-rounded_rows next [] = refl
length-rounded_rows next (it ∷ rest) =
    elim (is_rounded it.row) as (λ b. length (cond b (record { row = rounded it.row; number = next } ∷ rounded_rows (next + 1) rest) (it ∷ rounded_rows next rest)) ≡ suc (length rest))
    [ true ↦ ap suc (length-rounded_rows (next + 1) rest) | false ↦ ap suc (length-rounded_rows next rest) ]

pub length-tidied : (next : ℕ) (rows : List Numbered) → length (tidied next rows) ≤ length rows
unfolding strongest
length-tidied next rows =
    let rounded_all = rounded_rows next rows in
    omega (arith, length-picked (map (stays rounded_all) (range_with_len 0 (length rounded_all))) rounded_all, length-rounded_rows next rows)

-- the next stage has the rows without the column, and one for each pair
pub length-next_rows : (choice : Choice) (next : ℕ) (rows : List Numbered) → length (next_rows choice next rows) ≡ length (rows_without choice.column rows) + length (pairs_for choice rows)
unfolding next_rows
length-next_rows choice next rows =
    length-append (rows_without choice.column rows) (numbered_from next (map (combined_at choice.column rows) (pairs_for choice rows)))
    ∙ ap (λ n. length (rows_without choice.column rows) + n)
    (length-numbered_from next (map (combined_at choice.column rows) (pairs_for choice rows)) ∙ length-map (pairs_for choice rows) (combined_at choice.column rows))
