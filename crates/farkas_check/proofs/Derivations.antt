-- The rows after some steps, step by step.
use Rattle.std.proofs.Common.{◌≡◌, ℕ, ◌+◌, ◌-◌, ◌<◌, ◌∙◌, sym, subst, ap, refl, arith, List, [], ◌∷◌, ◌++◌, length, take, get_or, append_assoc, pos, inl, inr}
use Rattle.std.proofs.Common.{get_or-append-add}
use Rattle.std.proofs.lemmas.List.{take_all, take_more, get_or_default}
use Rattle.az_lin.specs.Affine.{Affine}
use Rattle.az_lin.specs.Derivation.{row_at, row_of, rows_after, AllSteps, IsContradiction, EndsInContradiction, IsFirstBad}
use Rattle.az_lin.specs.declared.step.Step.{Step}
use Rattle.farkas_check.specs.Verdict.{IsContradictionLast}

rows_after-push : (rows : List Affine) (steps : List Step) (step : Step) → rows_after rows (steps ++ step ∷ []) ≡ rows_after rows steps ++ row_of (rows_after rows steps) step ∷ []
rows_after-push rows [] step = refl
rows_after-push rows (first ∷ steps) step = rows_after-push (rows ++ row_of rows first ∷ []) steps step

AllSteps-push : (Good : List Affine → Step → Type 0) (rows : List Affine) (steps : List Step) (step : Step) → AllSteps Good rows steps → Good (rows_after rows steps) step
    → AllSteps Good rows (steps ++ step ∷ [])
AllSteps-push Good rows [] step all good = (good, tt)
AllSteps-push Good rows (first ∷ steps) step all good = (all.0, AllSteps-push Good (rows ++ row_of rows first ∷ []) steps step all.1 good)

taken_more : (steps : List Step) (i : ℕ) (step : Step) → i < length steps → step ≡ get_or steps i step → take (i + 1) steps ≡ take i steps ++ step ∷ []
taken_more steps i step here is =
    let P : Step → Type 0 = λ s. take (i + 1) steps ≡ take i steps ++ s ∷ [] in
    subst P (sym is) (take_more steps i step here)

-- one step more
pub rows_after-more : (rows : List Affine) (steps : List Step) (i : ℕ) (step : Step) (made more : List Affine) (row : Affine) → i < length steps → step ≡ get_or steps i step
    → rows_after rows (take i steps) ≡ rows ++ made → row ≡ row_of (rows ++ made) step → more ≡ made ++ row ∷ [] → rows_after rows (take (i + 1) steps) ≡ rows ++ more
rows_after-more rows steps i step made more row here is before row_is pushed =
    ap (rows_after rows) (taken_more steps i step here is)
    ∙ rows_after-push rows (take i steps) step
    ∙ ap (λ (rs : List Affine). rs ++ row_of rs step ∷ []) before
    ∙ ap (λ (r : Affine). (rows ++ made) ++ r ∷ []) (sym row_is)
    ∙ append_assoc rows made (row ∷ [])
    ∙ ap (λ (rs : List Affine). rows ++ rs) (sym pushed)

pub AllSteps-more : (Good : List Affine → Step → Type 0) (rows : List Affine) (steps : List Step) (i : ℕ) (step : Step) (made : List Affine) → i < length steps → step ≡ get_or steps i step
    → rows_after rows (take i steps) ≡ rows ++ made → AllSteps Good rows (take i steps) → Good (rows ++ made) step → AllSteps Good rows (take (i + 1) steps)
AllSteps-more Good rows steps i step made here is before all good =
    let P : List Step → Type 0 = AllSteps Good rows in
    let Q : List Affine → Type 0 = λ rs. Good rs step in
    subst P (sym (taken_more steps i step here is)) (AllSteps-push Good rows (take i steps) step all (subst Q (sym before) good))

pub IsFirstBad-at : (Good : List Affine → Step → Type 0) (rows : List Affine) (steps : List Step) (i : ℕ) (step : Step) (made : List Affine) → i < length steps → step ≡ get_or steps i step
    → rows_after rows (take i steps) ≡ rows ++ made → AllSteps Good rows (take i steps) → ¬ Good (rows ++ made) step → IsFirstBad Good rows steps i
IsFirstBad-at Good rows steps i step made here is before all bad = record {
  before = all;
  bad = inl (
    here,
    λ d good.
        let P : Step → Type 0 = λ s. Good (rows_after rows (take i steps)) s in
        let Q : List Affine → Type 0 = λ rs. Good rs step in
        bad (subst Q before (subst P (get_or_default steps i d step here ∙ sym is) good)),
  );
}

-- the last row is the last that was made
last_row : (rows made : List Affine) (after : List Affine) (n : ℕ) (d : Affine) → after ≡ rows ++ made → length made ≡ n → 0 < n → get_or after (length rows + n - 1) d ≡ get_or made (length made - 1) d
last_row rows made after n d is count some =
    let place : length rows + n - 1 ≡ length rows + (length made - 1) = omega arith in
    ap (λ (rs : List Affine). get_or rs (length rows + n - 1) d) is ∙ ap (λ (k : ℕ). get_or (rows ++ made) k d) place ∙ get_or-append-add rows made (length made - 1) d

pub ends_if_last : (rows : List Affine) (steps : List Step) (made : List Affine) → rows_after rows steps ≡ rows ++ made → length made ≡ length steps
    → IsContradictionLast made → EndsInContradiction rows steps
ends_if_last rows steps made is count last =
    let empty : Affine = record { coefs = []; konst = pos 0 } in
    let some : 0 < length made = last.some in
    let same : row_at (rows_after rows steps) (length rows + length steps - 1) ≡ row_at made (length made - 1) =
    last_row rows made (rows_after rows steps) (length steps) empty is count (omega arith) in
    record { some = omega arith; last = subst IsContradiction (sym same) last.last }

pub last_if_ends : (rows : List Affine) (steps : List Step) (made : List Affine) → rows_after rows steps ≡ rows ++ made → length made ≡ length steps
    → EndsInContradiction rows steps → IsContradictionLast made
last_if_ends rows steps made is count ends =
    let empty : Affine = record { coefs = []; konst = pos 0 } in
    let some : 0 < length steps = ends.some in
    let same : row_at (rows_after rows steps) (length rows + length steps - 1) ≡ row_at made (length made - 1) =
    last_row rows made (rows_after rows steps) (length steps) empty is count some in
    record { some = omega arith; last = subst IsContradiction same ends.last }

pub IsFirstBad-end : (Good : List Affine → Step → Type 0) (rows : List Affine) (steps : List Step) → AllSteps Good rows steps → ¬ EndsInContradiction rows steps
    → IsFirstBad Good rows steps (length steps)
IsFirstBad-end Good rows steps all none =
    let P : List Step → Type 0 = AllSteps Good rows in
    record { before = subst P (sym (take_all (length steps) steps (omega arith))) all; bad = inr (refl, none) }
