-- Numbering on: what one more row adds.
use Rattle.std.proofs.Common.{◌≡◌, ℕ, suc, ◌+◌, ap, refl, sym, ◌∙◌, List, [], ◌∷◌, ◌++◌, length, arith, take, map, append_assoc, get_or, ◌<◌}
use Rattle.std.proofs.lemmas.List.{map-append, length-map, take_more, length-take-le}
use Rattle.az_lin.specs.Affine.{Affine}
use Rattle.farkas_find.specs.declared.numbered.Numbered.{Numbered}
use Rattle.farkas_find.specs.declared.choice.Pair.{Pair}
use Rattle.az_lin.specs.declared.step.Step.{Step}
use Rattle.farkas_find.specs.Combining.{numbered_from, combined_at, step_at}

pub numbered_from-nil : (next : ℕ) → numbered_from next [] ≡ []
unfolding numbered_from
numbered_from-nil next = refl

pub numbered_from-push : (next : ℕ) (rows : List Affine) (row : Affine)
    → numbered_from next (rows ++ row ∷ []) ≡ numbered_from next rows ++ record { row = row; number = next + length rows } ∷ []
unfolding numbered_from
numbered_from-push next [] row =
    let e : next ≡ next + 0 = omega arith in
    let one : ℕ → List Numbered = λ n. record { row = row; number = n } ∷ [] in
    ap one e
numbered_from-push next (x ∷ rows) row =
    let e : (next + 1) + length rows ≡ next + suc (length rows) = omega arith in
    let one : ℕ → List Numbered = λ n. record { row = x; number = next } ∷ (numbered_from (next + 1) rows ++ record { row = row; number = n } ∷ []) in
    ap (λ xs. record { row = x; number = next } ∷ xs) (numbered_from-push (next + 1) rows row) ∙ ap one e

-- a turn of the loop that combines: one more pair, whose rows stand at its places
pub makes_one : (next number column i : ℕ) (rows : List Numbered) (pairs : List Pair) (pair : Pair) (row : Affine) (made : List Numbered)
    → take (i + 1) pairs ≡ take i pairs ++ pair ∷ [] → length (take i pairs) ≡ i → row ≡ combined_at column rows pair
    → made ≡ numbered_from next (map (combined_at column rows) (take i pairs)) → number ≡ next + i
    → made ++ record { row = row; number = number } ∷ [] ≡ numbered_from next (map (combined_at column rows) (take (i + 1) pairs))
makes_one next number column i rows pairs pair row made more long is so_far count =
    let done = map (combined_at column rows) (take i pairs) in
    let many : length done ≡ i = length-map (take i pairs) (combined_at column rows) ∙ long in
    let here : Numbered = record { row = row; number = number } in
    let wanted : Numbered = record { row = combined_at column rows pair; number = next + length done } in
    let same : here ≡ wanted = rw (is, count, many) refl in
    rw (more, map-append (combined_at column rows) (take i pairs) (pair ∷ []), numbered_from-push next done (combined_at column rows pair), so_far, same) refl

pub step_more : (column i : ℕ) (rows : List Numbered) (pairs : List Pair) (pair : Pair) (step : Step) (old steps : List Step)
    → take (i + 1) pairs ≡ take i pairs ++ pair ∷ [] → step ≡ step_at column rows pair
    → steps ≡ old ++ map (step_at column rows) (take i pairs)
    → steps ++ step ∷ [] ≡ old ++ map (step_at column rows) (take (i + 1) pairs)
step_more column i rows pairs pair step old steps more is so_far =
    rw (more, map-append (step_at column rows) (take i pairs) (pair ∷ []), so_far, is) (append_assoc old (map (step_at column rows) (take i pairs)) (step_at column rows pair ∷ []))

pub length-numbered_from : (next : ℕ) (rows : List Affine) → length (numbered_from next rows) ≡ length rows
unfolding numbered_from
length-numbered_from next [] = refl
length-numbered_from next (row ∷ rows) = ap suc (length-numbered_from (next + 1) rows)

-- a turn of the loop that numbers rows as they stand
pub numbers_next : (i : ℕ) (rows : List Affine) (row : Affine) (so_far : List Numbered) → i < length rows → row ≡ get_or rows i row
    → so_far ≡ numbered_from 0 (take i rows) → so_far ++ record { row = row; number = i } ∷ [] ≡ numbered_from 0 (take (i + 1) rows)
numbers_next i rows row so_far inside here before =
    let many : length (take i rows) ≡ i = length-take-le i rows (omega arith) in
    let count : i ≡ 0 + length (take i rows) = omega arith in
    let one : Numbered = record { row = row; number = i } in
    let wanted : Numbered = record { row = row; number = 0 + length (take i rows) } in
    let same : one ≡ wanted = rw (← count) refl in
    let more : take (i + 1) rows ≡ take i rows ++ row ∷ [] = take_more rows i row inside ∙ ap (λ r. take i rows ++ r ∷ []) (sym here) in
    rw (more, numbered_from-push 0 (take i rows) row, before, same) refl
