-- A loop that changes each item of a list: what is done so far, a step, the end, and a refusal on the way.
use Rattle.std.proofs.Common.{◌≡◌, ℕ, ◌+◌, ◌<◌, List, [], ◌∷◌, ◌++◌, length, get_or, take, map, All, ap, sym, ◌∙◌, subst}
use Rattle.std.proofs.Math.Seq.{take-length}
use Rattle.std.proofs.lemmas.List.{map-append, take_more, get_or-map, length-map}
use Rattle.std.proofs.lemmas.List.Elements.{All-get_or}

-- the item at the next place is changed and pushed
pub map-take-more : {A B : Type 0} (f : A → B) (own : List A) (i : ℕ) (d : A) (got : B) (done next : List B) → i < length own
    → done ≡ map f (take i own) → got ≡ f (get_or own i d) → next ≡ done ++ got ∷ [] → next ≡ map f (take (i + 1) own)
map-take-more f own i d got done next here so_far same pushed =
    pushed
    ∙ ap (λ xs. xs ++ got ∷ []) so_far
    ∙ ap (λ x. map f (take i own) ++ x ∷ []) same
    ∙ sym (ap (map f) (take_more own i d here) ∙ map-append f (take i own) (get_or own i d ∷ []))

-- after the last item
pub map-take-all : {A B : Type 0} (f : A → B) (own items : List A) (i : ℕ) (done : List B) → done ≡ map f (take i own) → i ≡ length own → own ≡ items
    → done ≡ map f items
map-take-all f own items i done so_far full same =
    so_far ∙ ap (λ n. map f (take n own)) full ∙ ap (map f) (take-length own ∙ same)

-- where what comes of each item fits, what comes of one does
pub fits_at : {A B : Type 0} (fits : B → Type 0) (f : A → B) (own items : List A) (i : ℕ) (item : A) → i < length own → item ≡ get_or own i item → own ≡ items
    → All fits (map f items) → fits (f item)
fits_at fits f own items i item here is same all =
    let place : i < length (map f items) = rw (length-map, ← same) here in
    subst fits (get_or-map f items i item (f item) (rw (← same) here) ∙ ap (λ xs. f (get_or xs i item)) (sym same) ∙ ap f (sym is))
    (All-get_or fits (map f items) i (f item) place all)
