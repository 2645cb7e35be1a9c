-- From all items of a list that is made of others back to the others.
use Rattle.std.proofs.Common.{◌≡◌, ℕ, ◌+◌, ◌<◌, refl, subst, arith, Bool, true, false, cond, List, [], ◌∷◌, ◌++◌, map, get_or}
use Rattle.std.specs.List.{All, filter, flat_map, range_with_len}
use Rattle.std.proofs.lemmas.List.Concat.{flat_map-cons}
use Rattle.std.proofs.lemmas.List.FromFn.{get_or-range_with_len, length-range_with_len}
use Rattle.std.proofs.lemmas.List.Elements.{All-nil, All-cons, All-head, All-tail}
use Rattle.az_lin.specs.Affine.{Affine}
use Rattle.farkas_find.specs.Combining.{numbered_from}
use Rattle.farkas_find.specs.declared.numbered.Numbered.{Numbered}

pub All-filter_back : {X : Type 0} (t : X → Bool) (P : X → Type 0) (xs : List X) → All P (filter t xs) → All (λ x. t x ≡ true → P x) xs
All-filter_back t P [] h = All-nil (λ x. t x ≡ true → P x)
All-filter_back {X} t P (x ∷ xs) h =
    let Q : X → Type 0 = λ y. t y ≡ true → P y in
    (elim (t x) as (λ b. t x ≡ b → All P (cond b (x ∷ filter t xs) (filter t xs)) → All Q (x ∷ xs)) [
      | true ↦ λ e all. All-cons Q x xs (λ _. All-head P x (filter t xs) all) (All-filter_back t P xs (All-tail P x (filter t xs) all))
      | false ↦ λ e all. All-cons Q x xs (λ p. absurd (cc)) (All-filter_back t P xs all)
    ]) refl h

pub All-map_back : {X Y : Type 0} (f : Y → X) (P : X → Type 0) (ys : List Y) → All P (map f ys) → All (λ y. P (f y)) ys
All-map_back f P [] h = All-nil (λ y. P (f y))
All-map_back f P (y ∷ ys) h = All-cons (λ z. P (f z)) y ys (All-head P (f y) (map f ys) h) (All-map_back f P ys (All-tail P (f y) (map f ys) h))

pub All-append_back : {X : Type 0} (P : X → Type 0) (xs ys : List X) → All P (xs ++ ys) → All P xs × All P ys
All-append_back P [] ys h = (All-nil P, h)
All-append_back P (x ∷ xs) ys h =
    let rest = All-append_back P xs ys (All-tail P x (xs ++ ys) h) in
    (All-cons P x xs (All-head P x (xs ++ ys) h) rest.0, rest.1)

pub All-flat_map_back : {X A : Type 0} (f : X → List A) (P : A → Type 0) (xs : List X) → All P (flat_map f xs) → All (λ x. All P (f x)) xs
All-flat_map_back f P [] h = All-nil (λ x. All P (f x))
All-flat_map_back {X} {A} f P (x ∷ xs) h =
    let W : List A → Type 0 = All P in
    let both = All-append_back P (f x) (flat_map f xs) (subst W (flat_map-cons f x xs) h) in
    All-cons (λ y. All P (f y)) x xs both.0 (All-flat_map_back f P xs both.1)

pub All-range_back : (n : ℕ) (P : ℕ → Type 0) → All P (range_with_len 0 n) → (k : ℕ) → k < n → P k
All-range_back n P all k inside =
    let same : get_or (range_with_len 0 n) k 0 ≡ 0 + k = get_or-range_with_len 0 n k 0 inside in
    let it : get_or (range_with_len 0 n) k 0 ≡ k = omega (arith, same) in
    subst P it (all k 0 (omega (arith, inside, length-range_with_len 0 n)))

pub All-numbered_back : (Q : Affine → Type 0) (next : ℕ) (rows : List Affine) → All (λ it. Q it.row) (numbered_from next rows) → All Q rows
unfolding numbered_from
All-numbered_back Q next [] h = All-nil Q
All-numbered_back Q next (row ∷ rows) h =
    let P : Numbered → Type 0 = λ it. Q it.row in
    let here : Numbered = record { row = row; number = next } in
    All-cons Q row rows (All-head P here (numbered_from (next + 1) rows) h) (All-numbered_back Q (next + 1) rows (All-tail P here (numbered_from (next + 1) rows) h))
