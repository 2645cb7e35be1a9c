-- The places from one on: the next place, and those that follow.
use Rattle.std.proofs.Common.{◌≡◌, ℕ, suc, ◌+◌, ◌-◌, ◌<◌, ◌≤◌, ap, refl, sym, ◌∙◌, Bool, true, false, cond, List, [], ◌∷◌, ◌++◌, arith, append_assoc, map}
use Rattle.std.specs.List.{range_with_len, filter, fold}

-- the places from this one up to the end
abbrev pub rest_from : ℕ → ℕ → List ℕ
rest_from place count = range_with_len place (count - place)

pub rest_from-step : (place count : ℕ) → place < count → rest_from place count ≡ place ∷ rest_from (place + 1) count
rest_from-step place count inside =
    let e : count - place ≡ suc (count - (place + 1)) = omega arith in
    rw e refl

pub rest_from-end : (place count : ℕ) → count ≤ place → rest_from place count ≡ []
rest_from-end place count past =
    let e : count - place ≡ 0 = omega arith in
    rw e refl

-- a loop that keeps the places that pass a test
pub kept_yes : (test : ℕ → Bool) (out whole : List ℕ) (place count : ℕ) → place < count → test place ≡ true
    → out ++ filter test (rest_from place count) ≡ whole → (out ++ place ∷ []) ++ filter test (rest_from (place + 1) count) ≡ whole
kept_yes test out whole place count inside passes so_far =
    append_assoc out (place ∷ []) (filter test (rest_from (place + 1) count))
    ∙ ap (λ xs. out ++ xs) (sym (ap (filter test) (rest_from-step place count inside) ∙ ap (λ b. cond b (place ∷ filter test (rest_from (place + 1) count)) (filter test (rest_from (place + 1) count))) passes))
    ∙ so_far

pub kept_no : (test : ℕ → Bool) (out whole : List ℕ) (place count : ℕ) → place < count → test place ≡ false
    → out ++ filter test (rest_from place count) ≡ whole → out ++ filter test (rest_from (place + 1) count) ≡ whole
kept_no test out whole place count inside fails so_far =
    ap (λ xs. out ++ xs) (sym (ap (filter test) (rest_from-step place count inside) ∙ ap (λ b. cond b (place ∷ filter test (rest_from (place + 1) count)) (filter test (rest_from (place + 1) count))) fails))
    ∙ so_far

-- the same, where each kept place gives a value
pub gives_yes : {X : Type 0} (give : ℕ → X) (test : ℕ → Bool) (out whole : List X) (place count : ℕ) → place < count → test place ≡ true
    → out ++ map give (filter test (rest_from place count)) ≡ whole → (out ++ give place ∷ []) ++ map give (filter test (rest_from (place + 1) count)) ≡ whole
gives_yes give test out whole place count inside passes so_far =
    append_assoc out (give place ∷ []) (map give (filter test (rest_from (place + 1) count)))
    ∙ ap (λ xs. out ++ map give xs) (sym (ap (filter test) (rest_from-step place count inside) ∙ ap (λ b. cond b (place ∷ filter test (rest_from (place + 1) count)) (filter test (rest_from (place + 1) count))) passes))
    ∙ so_far

pub gives_no : {X : Type 0} (give : ℕ → X) (test : ℕ → Bool) (out whole : List X) (place count : ℕ) → place < count → test place ≡ false
    → out ++ map give (filter test (rest_from place count)) ≡ whole → out ++ map give (filter test (rest_from (place + 1) count)) ≡ whole
gives_no give test out whole place count inside fails so_far =
    ap (λ xs. out ++ map give xs) (sym (ap (filter test) (rest_from-step place count inside) ∙ ap (λ b. cond b (place ∷ filter test (rest_from (place + 1) count)) (filter test (rest_from (place + 1) count))) fails))
    ∙ so_far

-- a fold over the places that pass a test
pub fold_yes : {X : Type 0} (step : X → ℕ → X) (test : ℕ → Bool) (so_far : X) (place count : ℕ) → place < count → test place ≡ true
    → fold step so_far (filter test (rest_from place count)) ≡ fold step (step so_far place) (filter test (rest_from (place + 1) count))
fold_yes step test so_far place count inside passes =
    ap (λ xs. fold step so_far (filter test xs)) (rest_from-step place count inside)
    ∙ ap (λ b. fold step so_far (cond b (place ∷ filter test (rest_from (place + 1) count)) (filter test (rest_from (place + 1) count)))) passes

pub fold_no : {X : Type 0} (step : X → ℕ → X) (test : ℕ → Bool) (so_far : X) (place count : ℕ) → place < count → test place ≡ false
    → fold step so_far (filter test (rest_from place count)) ≡ fold step so_far (filter test (rest_from (place + 1) count))
fold_no step test so_far place count inside fails =
    ap (λ xs. fold step so_far (filter test xs)) (rest_from-step place count inside)
    ∙ ap (λ b. fold step so_far (cond b (place ∷ filter test (rest_from (place + 1) count)) (filter test (rest_from (place + 1) count)))) fails
