-- What a list keeps where flags say so.
use Rattle.std.proofs.Common.{◌≡◌, ap, refl, Bool, true, false, cond, List, [], ◌∷◌, ◌++◌, map}
use Rattle.std.specs.List.{items_where_true, zip}

pub map_same : {X : Type 0} (xs : List X) → map (λ x. x) xs ≡ xs
map_same [] = refl
map_same (x ∷ xs) = ap (λ ys. x ∷ ys) (map_same xs)

abbrev pub flagged : {X : Type 0} → List (X × Bool) → List X
flagged [] = []
flagged (p ∷ ps) = cond p.1 (p.0 ∷ flagged ps) (flagged ps)

pub flagged-push : {X : Type 0} (ps : List (X × Bool)) (x : X) (b : Bool) → flagged (ps ++ (x, b) ∷ []) ≡ flagged ps ++ cond b (x ∷ []) []
flagged-push [] x true = refl
flagged-push [] x false = refl
flagged-push {X} (p ∷ ps) x b =
    elim (p.1) as (λ t. cond t (p.0 ∷ flagged (ps ++ (x, b) ∷ [])) (flagged (ps ++ (x, b) ∷ [])) ≡ cond t (p.0 ∷ flagged ps) (flagged ps) ++ cond b (x ∷ []) []) [
      | true ↦ ap (λ ys. p.0 ∷ ys) (flagged-push ps x b)
      | false ↦ flagged-push ps x b
    ]

pub flagged-zip : {X : Type 0} (xs : List X) (bs : List Bool) → flagged (zip xs bs) ≡ items_where_true bs xs
flagged-zip [] [] = refl
flagged-zip [] (b ∷ bs) = refl
flagged-zip (x ∷ xs) [] = refl
flagged-zip (x ∷ xs) (true ∷ bs) = ap (λ ys. x ∷ ys) (flagged-zip xs bs)
flagged-zip (x ∷ xs) (false ∷ bs) = flagged-zip xs bs
