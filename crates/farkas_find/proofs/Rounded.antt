-- Rounding row by row: the rounded rows and the steps of a list are those of its parts.
use Rattle.std.proofs.Common.{◌≡◌, ℕ, suc, ◌+◌, ◌≤◌, ap, refl, ◌∙◌, true, false, cond, List, [], ◌∷◌, ◌++◌, length, arith, pos, ℤ, append_assoc, append-nil, length-append}
use Rattle.az_lin.specs.Affine.{Affine}
use Rattle.az_lin.specs.Combination.{quotient}
use Rattle.az_lin.specs.CommonDivisor.{gcd_of_all}
use Rattle.az_lin.specs.declared.step.Step.{Step}
use Rattle.farkas_find.specs.declared.numbered.Numbered.{Numbered}
use Rattle.farkas_find.specs.Tidying.{is_rounded, rounded, rounded_rows, rounding_steps}

abbrev pub step_of : Numbered → Step
step_of it = record { a = pos 1; i = it.number; b = pos 0; j = it.number; g = pos (gcd_of_all it.row.coefs) }

pub rounding_steps-append : (xs ys : List Numbered) → rounding_steps (xs ++ ys) ≡ rounding_steps xs ++ rounding_steps ys
unfolding rounding_steps
rounding_steps-append [] ys = refl
rounding_steps-append (x ∷ xs) ys =
    let rest = rounding_steps-append xs ys in
    elim (is_rounded x.row) as (λ t. cond t (step_of x ∷ rounding_steps (xs ++ ys)) (rounding_steps (xs ++ ys)) ≡ cond t (step_of x ∷ rounding_steps xs) (rounding_steps xs) ++ rounding_steps ys)
    [ true ↦ ap (λ zs. step_of x ∷ zs) rest | false ↦ rest ]

pub rounded_rows-append : (next : ℕ) (xs ys : List Numbered) → rounded_rows next (xs ++ ys) ≡ rounded_rows next xs ++ rounded_rows (next + length (rounding_steps xs)) ys
unfolding rounded_rows rounding_steps
rounded_rows-append next [] ys = let e : next ≡ next + 0 = omega arith in ap (λ n. rounded_rows n ys) e
rounded_rows-append next (x ∷ xs) ys =
    let rest = rounded_rows-append next xs ys in
    let count : (next + 1) + length (rounding_steps xs) ≡ next + suc (length (rounding_steps xs)) = omega arith in
    let on = rounded_rows-append (next + 1) xs ys ∙ ap (λ n. rounded_rows (next + 1) xs ++ rounded_rows n ys) count in
    elim (is_rounded x.row) as (λ t. cond t (record { row = rounded x.row; number = next } ∷ rounded_rows (next + 1) (xs ++ ys)) (x ∷ rounded_rows next (xs ++ ys))
    ≡ cond t (record { row = rounded x.row; number = next } ∷ rounded_rows (next + 1) xs) (x ∷ rounded_rows next xs) ++ rounded_rows (next + length (cond t (step_of x ∷ rounding_steps xs) (rounding_steps xs))) ys)
    [ true ↦ ap (λ zs. record { row = rounded x.row; number = next } ∷ zs) on | false ↦ ap (λ zs. x ∷ zs) rest ]

-- one row
pub rounding_steps-yes : (it : Numbered) → is_rounded it.row ≡ true → rounding_steps (it ∷ []) ≡ step_of it ∷ []
unfolding rounding_steps
rounding_steps-yes it h = rw h refl

pub rounding_steps-no : (it : Numbered) → is_rounded it.row ≡ false → rounding_steps (it ∷ []) ≡ []
unfolding rounding_steps
rounding_steps-no it h = rw h refl

pub rounded_rows-yes : (next : ℕ) (it : Numbered) → is_rounded it.row ≡ true → rounded_rows next (it ∷ []) ≡ record { row = rounded it.row; number = next } ∷ []
unfolding rounded_rows
rounded_rows-yes next it h = rw h refl

pub rounded_rows-no : (next : ℕ) (it : Numbered) → is_rounded it.row ≡ false → rounded_rows next (it ∷ []) ≡ it ∷ []
unfolding rounded_rows
rounded_rows-no next it h = rw h refl

-- at most one step a row
pub length-rounding_steps : (xs : List Numbered) → length (rounding_steps xs) ≤ length xs
unfolding rounding_steps
length-rounding_steps [] = omega arith
length-rounding_steps (x ∷ xs) =
    let rest = length-rounding_steps xs in
    elim (is_rounded x.row) as (λ t. length (cond t (step_of x ∷ rounding_steps xs) (rounding_steps xs)) ≤ suc (length xs)) [ true ↦ omega arith | false ↦ omega arith ]

pub rounded-yes : (row : Affine) → is_rounded row ≡ true → rounded row ≡ quotient row (pos (gcd_of_all row.coefs))
unfolding rounded
rounded-yes row h = rw h refl

pub rounded-no : (row : Affine) → is_rounded row ≡ false → rounded row ≡ row
unfolding rounded
rounded-no row h = rw h refl

-- a turn of the loop that rounds
pub rounds_one : (next number : ℕ) (done xs : List Numbered) (it : Numbered) (row : Affine) (divisor : ℤ) → is_rounded it.row ≡ true → divisor ≡ pos (gcd_of_all it.row.coefs)
    → row ≡ quotient it.row divisor → done ≡ rounded_rows next xs → number ≡ next + length (rounding_steps xs)
    → done ++ record { row = row; number = number } ∷ [] ≡ rounded_rows next (xs ++ it ∷ [])
rounds_one next number done xs it row divisor above d q so_far count =
    let made : Numbered = record { row = row; number = number } in
    let wanted : Numbered = record { row = rounded it.row; number = next + length (rounding_steps xs) } in
    let here : made ≡ wanted = rw (q, d, rounded-yes it.row above, count) refl in
    rw (rounded_rows-append next xs (it ∷ []), rounded_rows-yes (next + length (rounding_steps xs)) it above, so_far, here) refl

pub steps_one : (old steps : List Step) (xs : List Numbered) (it : Numbered) (step : Step) (divisor : ℤ) → is_rounded it.row ≡ true → divisor ≡ pos (gcd_of_all it.row.coefs)
    → step ≡ record { a = pos 1; i = it.number; b = pos 0; j = it.number; g = divisor } → steps ≡ old ++ rounding_steps xs
    → steps ++ step ∷ [] ≡ old ++ rounding_steps (xs ++ it ∷ [])
steps_one old steps xs it step divisor above d e so_far =
    rw (rounding_steps-append xs (it ∷ []), rounding_steps-yes it above, so_far, e, d) (append_assoc old (rounding_steps xs) (step_of it ∷ []))

pub counts_one : (next number : ℕ) (xs : List Numbered) (it : Numbered) → is_rounded it.row ≡ true → number ≡ next + length (rounding_steps xs) → number + 1 ≡ next + length (rounding_steps (xs ++ it ∷ []))
counts_one next number xs it above count = rw (rounding_steps-append xs (it ∷ []), rounding_steps-yes it above, length-append) (omega arith)

-- and one that leaves the row as it is
pub leaves_one : (next : ℕ) (done xs : List Numbered) (it : Numbered) → is_rounded it.row ≡ false → done ≡ rounded_rows next xs → done ++ it ∷ [] ≡ rounded_rows next (xs ++ it ∷ [])
leaves_one next done xs it below so_far = rw (rounded_rows-append next xs (it ∷ []), rounded_rows-no (next + length (rounding_steps xs)) it below, so_far) refl

pub same_steps : (xs : List Numbered) (it : Numbered) → is_rounded it.row ≡ false → rounding_steps (xs ++ it ∷ []) ≡ rounding_steps xs
same_steps xs it below = rw (rounding_steps-append xs (it ∷ []), rounding_steps-no it below) (append-nil (rounding_steps xs))

pub rounded_rows-nil : (next : ℕ) → rounded_rows next [] ≡ []
unfolding rounded_rows
rounded_rows-nil next = refl

pub rounding_steps-nil : rounding_steps [] ≡ []
unfolding rounding_steps
rounding_steps-nil = refl
