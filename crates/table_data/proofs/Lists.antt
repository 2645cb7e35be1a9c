-- Lists by their places.
use Rattle.std.proofs.Common.{◌≡◌, ◌≢◌, ℕ, zero, suc, ◌<◌, List, [], ◌∷◌, ◌++◌, length, Some, refl, ap, arith, ◌∙◌}
use Rattle.std.specs.Prelude.{slice_get, slice_set, slice_index_or, Contains}
use Rattle.std.specs.List.{AllZip}
use Rattle.std.proofs.lemmas.Option.{slice_get_within, get_or_from_slice_get, slice_get-get_or}

pub get-contains : {X : Type 0} (xs : List X) (i : ℕ) (x : X) → slice_get xs i ≡ Some x → Contains xs x
get-contains xs i x e = (i, slice_get_within xs i x e, get_or_from_slice_get xs i x x e)

pub contains-get : {X : Type 0} (xs : List X) (x : X) → Contains xs x → (i : ℕ) × (slice_get xs i ≡ Some x)
contains-get xs x (i, h, e) = (i, slice_get-get_or xs i x h ∙ ap (λ y. Some y) e)

pub get-set_same : {X : Type 0} (xs : List X) (i : ℕ) (x y : X) → slice_get xs i ≡ Some x → slice_get (slice_set xs i y) i ≡ Some y
get-set_same [] i x y e = cc e
get-set_same (z ∷ xs) zero x y e = refl
get-set_same (z ∷ xs) (suc i) x y e = get-set_same xs i x y e

pub get-set_other : {X : Type 0} (xs : List X) (i j : ℕ) (y : X) → j ≢ i → slice_get (slice_set xs i y) j ≡ slice_get xs j
get-set_other [] i j y ne = refl
get-set_other (z ∷ xs) zero zero y ne = absurd (ne refl)
get-set_other (z ∷ xs) zero (suc j) y ne = refl
get-set_other (z ∷ xs) (suc i) zero y ne = refl
get-set_other (z ∷ xs) (suc i) (suc j) y ne = get-set_other xs i j y (λ e. ne (ap suc e))

pub zip-push : {A B : Type 0} (R : A → B → Type 0) (xs : List A) (ys : List B) (x : A) (y : B) → AllZip R xs ys → R x y → AllZip R (xs ++ x ∷ []) (ys ++ y ∷ [])
zip-push R [] [] x y all r = (r, tt)
zip-push R [] (z ∷ ys) x y all r = absurd all
zip-push R (z ∷ xs) [] x y all r = absurd all
zip-push R (z ∷ xs) (w ∷ ys) x y all r = (all.0, zip-push R xs ys x y all.1 r)

-- what holds place by place
pub zip-places : {A B : Type 0} (R : A → B → Type 0) (xs : List A) (ys : List B) → length xs ≡ length ys
    → ((k : ℕ) (d : A) (e : B) → k < length xs → R (slice_index_or xs k d) (slice_index_or ys k e)) → AllZip R xs ys
zip-places R [] [] same each = tt
zip-places R [] (y ∷ ys) same each = absurd (omega (arith, same))
zip-places R (x ∷ xs) [] same each = absurd (omega (arith, same))
zip-places R (x ∷ xs) (y ∷ ys) same each =
    (each 0 x y (omega arith), zip-places R xs ys (omega (arith, same)) (λ k d e h. each (suc k) d e (omega (arith, h))))
