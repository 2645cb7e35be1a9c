-- `All` and `Any` of a list made of others, and records from their parts.
use Rattle.std.proofs.Common.{◌≡◌, ◌⊎◌, inl, inr, ◌↔◌, ℕ, zero, suc, ◌+◌, ◌<◌, List, [], ◌∷◌, ◌++◌, length, get_or, take, map, append_assoc, length-append, refl, sym, ap, ◌∙◌, subst, arith, All}
use Rattle.az_lin.specs.Affine.{Affine, Polyhedron, Union}
use Rattle.std.specs.List.{Any, AllPairs, flat_map}
use Rattle.std.proofs.lemmas.List.{flat_map_more, take_more}
use Rattle.az_lin.proofs.Mapped.{map-take-more}
use Rattle.std.proofs.lemmas.List.Elements.{All-nil, All-cons, All-head, All-tail}

pub both_ways : {A B C : Type 0} → A ↔ B → B ↔ C → A ↔ C
both_ways f g = (λ a. g.0 (f.0 a), λ c. f.1 (g.1 c))

pub Any-nil : {X : Type 0} (P : X → Type 0) → Any P [] → ⊥
Any-nil P (k, x, here, is, p) = absurd (omega (arith, here))

pub Any-here : {X : Type 0} (P : X → Type 0) (x : X) (xs : List X) → P x → Any P (x ∷ xs)
Any-here P x xs p = (0, x, omega arith, refl, p)

pub Any-there : {X : Type 0} (P : X → Type 0) (x : X) (xs : List X) → Any P xs → Any P (x ∷ xs)
Any-there P x xs (k, y, here, is, p) = (suc k, y, omega (arith, here), is, p)

pub Any-cons : {X : Type 0} (P : X → Type 0) (x : X) (xs : List X) → Any P (x ∷ xs) → P x ⊎ Any P xs
Any-cons P x xs (zero, y, here, is, p) = inl (subst P (sym is) p)
Any-cons P x xs (suc k, y, here, is, p) = inr (k, y, omega (arith, here), is, p)

pub Any-weaker : {X : Type 0} (P Q : X → Type 0) (xs : List X) → ((x : X) → P x → Q x) → Any P xs → Any Q xs
Any-weaker P Q xs weaker (k, y, here, is, p) = (k, y, here, is, weaker y p)

pub Any-append : {X : Type 0} (P : X → Type 0) (xs ys : List X) → Any P (xs ++ ys) ↔ (Any P xs ⊎ Any P ys)
Any-append P [] ys = (λ any. inr any, λ side. elim side [ inl none ↦ absurd (Any-nil P none) | inr any ↦ any ])
Any-append {X} P (x ∷ xs) ys =
    let rest : Any P (xs ++ ys) ↔ (Any P xs ⊎ Any P ys) = Any-append P xs ys in (
      λ any. elim (Any-cons P x (xs ++ ys) any) [
        | inl p ↦ inl (Any-here P x xs p)
        | inr later ↦ elim (rest.0 later) [ inl left ↦ inl (Any-there P x xs left) | inr right ↦ inr right ]
      ],
      λ side. elim side [
        | inl left ↦ elim (Any-cons P x xs left) [ inl p ↦ Any-here P x (xs ++ ys) p | inr later ↦ Any-there P x (xs ++ ys) (rest.1 (inl later)) ]
        | inr right ↦ Any-there P x (xs ++ ys) (rest.1 (inr right))
      ],
    )

pub Any-map : {A B : Type 0} (P : B → Type 0) (Q : A → Type 0) (f : A → B) (xs : List A) → ((x : A) → P (f x) ↔ Q x) → Any P (map f xs) ↔ Any Q xs
Any-map P Q f [] same = (λ none. absurd (Any-nil P none), λ none. absurd (Any-nil Q none))
Any-map P Q f (x ∷ xs) same =
    let rest : Any P (map f xs) ↔ Any Q xs = Any-map P Q f xs same in (
      λ any. elim (Any-cons P (f x) (map f xs) any) [ inl p ↦ Any-here Q x xs ((same x).0 p) | inr later ↦ Any-there Q x xs (rest.0 later) ],
      λ any. elim (Any-cons Q x xs any) [ inl q ↦ Any-here P (f x) (map f xs) ((same x).1 q) | inr later ↦ Any-there P (f x) (map f xs) (rest.1 later) ],
    )

pub All-map_same : {A B : Type 0} (P : B → Type 0) (Q : A → Type 0) (f : A → B) (xs : List A) → ((x : A) → P (f x) ↔ Q x) → All P (map f xs) ↔ All Q xs
All-map_same P Q f [] same = (λ all. All-nil Q, λ all. All-nil P)
All-map_same P Q f (x ∷ xs) same =
    let rest : All P (map f xs) ↔ All Q xs = All-map_same P Q f xs same in (
      λ all. All-cons Q x xs ((same x).0 (All-head P (f x) (map f xs) all)) (rest.0 (All-tail P (f x) (map f xs) all)),
      λ all. All-cons P (f x) (map f xs) ((same x).1 (All-head Q x xs all)) (rest.1 (All-tail Q x xs all)),
    )

pub All-left : {X : Type 0} (P : X → Type 0) (xs ys : List X) → All P (xs ++ ys) → All P xs
All-left P [] ys all = All-nil P
All-left P (x ∷ xs) ys all = All-cons P x xs (All-head P x (xs ++ ys) all) (All-left P xs ys (All-tail P x (xs ++ ys) all))

pub All-right : {X : Type 0} (P : X → Type 0) (xs ys : List X) → All P (xs ++ ys) → All P ys
All-right P [] ys all = all
All-right P (x ∷ xs) ys all = All-right P xs ys (All-tail P x (xs ++ ys) all)

pub AllPairs-nil : {X : Type 0} (R : X → X → Type 0) → AllPairs R []
AllPairs-nil R = λ i j d before here. absurd (omega (arith, here))

pub AllPairs-cons : {X : Type 0} (R : X → X → Type 0) (x : X) (xs : List X) → All (R x) xs → AllPairs R xs → AllPairs R (x ∷ xs)
AllPairs-cons R x xs first rest zero zero d before here = absurd (omega (arith, before))
AllPairs-cons R x xs first rest zero (suc j) d before here = first j d (omega (arith, here))
AllPairs-cons R x xs first rest (suc i) zero d before here = absurd (omega (arith, before))
AllPairs-cons R x xs first rest (suc i) (suc j) d before here = rest i j d (omega (arith, before)) (omega (arith, here))

pub polyhedron_is : (p : Polyhedron) (width : ℕ) (rows : List Affine) → width ≡ p.width → rows ≡ p.rows → record { width = width; rows = rows } ≡ p
polyhedron_is p width rows same same' =
    let with_width : ℕ → Polyhedron = λ n. record { width = n; rows = rows } in
    let with_rows : List Affine → Polyhedron = λ rs. record { width = p.width; rows = rs } in
    ap with_width same ∙ ap with_rows same'

pub union_is : (d : Union) (width : ℕ) (disjuncts : List Polyhedron) → width ≡ d.width → disjuncts ≡ d.disjuncts → record { width = width; disjuncts = disjuncts } ≡ d
union_is d width disjuncts same same' =
    let with_width : ℕ → Union = λ n. record { width = n; disjuncts = disjuncts } in
    let with_disjuncts : List Polyhedron → Union = λ ps. record { width = d.width; disjuncts = ps } in
    ap with_width same ∙ ap with_disjuncts same'

-- one item more is changed and pushed behind what was there
pub append-take-more : {A B : Type 0} (f : A → B) (own : List A) (i : ℕ) (d : A) (got : B) (old done next : List B) → i < length own
    → done ≡ old ++ map f (take i own) → got ≡ f (get_or own i d) → next ≡ done ++ got ∷ [] → next ≡ old ++ map f (take (i + 1) own)
append-take-more f own i d got old done next here so_far same pushed =
    pushed
    ∙ ap (λ xs. xs ++ got ∷ []) so_far
    ∙ append_assoc old (map f (take i own)) (got ∷ [])
    ∙ ap (λ xs. old ++ xs) (map-take-more f own i d got (map f (take i own)) (map f (take i own) ++ got ∷ []) here refl same refl)

-- one item more of a list made of lists
pub flat_map-take-more : {A B : Type 0} (f : A → List B) (own : List A) (i : ℕ) (d : A) (done next : List B) → i < length own
    → done ≡ flat_map f (take i own) → next ≡ done ++ f (get_or own i d) → next ≡ flat_map f (take (i + 1) own)
flat_map-take-more f own i d done next here so_far pushed =
    pushed
    ∙ ap (λ xs. xs ++ f (get_or own i d)) so_far
    ∙ flat_map_more f [] (take i own) (get_or own i d)
    ∙ ap (flat_map f) (sym (take_more own i d here))

pub flat_map-some : {A B : Type 0} (f : A → List B) (xs : List A) → 0 < length xs → ((x : A) → 0 < length (f x)) → 0 < length (flat_map f xs)
flat_map-some f [] some each = absurd (omega (arith, some))
flat_map-some f (x ∷ xs) some each = rw length-append (let first : 0 < length (f x) = each x in omega (arith, first))
