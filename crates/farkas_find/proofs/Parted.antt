-- Rows with a column and rows without it: what one more row adds.
use Rattle.std.proofs.Common.{◌≡◌, refl, sym, Bool, true, false, not, List, [], ◌∷◌, ◌++◌, ℕ, append-nil}
use Rattle.std.specs.List.{filter}
use Rattle.std.proofs.lemmas.List.Elements.{filter-append}
use Rattle.farkas_find.specs.declared.numbered.Numbered.{Numbered}
use Rattle.farkas_find.specs.Tidying.{coef_at, is_zero}
use Rattle.farkas_find.specs.Stages.{rows_without, rows_with}

push_yes : {X : Type 0} (p : X → Bool) (out xs : List X) (x : X) → p x ≡ true → out ≡ filter p xs → out ++ x ∷ [] ≡ filter p (xs ++ x ∷ [])
push_yes p out xs x passes is = rw (filter-append p xs (x ∷ []), is, passes) refl

push_no : {X : Type 0} (p : X → Bool) (out xs : List X) (x : X) → p x ≡ false → out ≡ filter p xs → out ≡ filter p (xs ++ x ∷ [])
push_no p out xs x fails is = rw (filter-append p xs (x ∷ []), is, fails) (sym (append-nil (filter p xs)))

zero_of_not : (b : Bool) → not b ≡ true → b ≡ false
zero_of_not true h = cc
zero_of_not false h = refl

-- a row with the column
pub kept_past : (column : ℕ) (out xs : List Numbered) (it : Numbered) → not (is_zero (coef_at column it)) ≡ true
    → out ≡ rows_without column xs → out ≡ rows_without column (xs ++ it ∷ [])
unfolding rows_without
kept_past column out xs it has is = push_no (λ it. is_zero (coef_at column it)) out xs it (zero_of_not (is_zero (coef_at column it)) has) is

pub used_more : (column : ℕ) (out xs : List Numbered) (it : Numbered) → not (is_zero (coef_at column it)) ≡ true
    → out ≡ rows_with column xs → out ++ it ∷ [] ≡ rows_with column (xs ++ it ∷ [])
unfolding rows_with
used_more column out xs it has is = push_yes (λ it. not (is_zero (coef_at column it))) out xs it has is
