-- Members of lists, and increasing lists of points.
use Rattle.std.proofs.Common.{◌≡◌, ℕ, zero, suc, List, [], ◌∷◌, ◌++◌, ◌<◌, ◌+◌, ◌↔◌, length, map, take, get_or, refl, sym, subst, ap, ◌∙◌, arith, inl, inr, ⊎_elim}
use Rattle.std.specs.Prelude.{ℤ, Contains, Any, ◌⊎◌}
use Rattle.std.specs.List.{All, AllByRecursion, AllZip, flat_map}
use Rattle.std.proofs.lemmas.List.Elements.{All-get_or, All-take, All-more, Contains-append_left, Contains-append_right, Contains-append_cases}
use Rattle.std.proofs.lemmas.List.{get_or-map, length-map, get_or-take, length-take, take-take}
use Rattle.az_lin.proofs.Lists.{Any-nil, Any-here, Any-cons, Any-append}
use Rattle.az_ast.specs.Points.{Precedes, IsIncreasing}

module _ {A : Type 0} where
  pub first_or_rest : (y : A) (ys : List A) (x : A) → Contains (y ∷ ys) x → (x ≡ y) ⊎ Contains ys x
  first_or_rest y ys x (zero, h, e) = inl (sym e)
  first_or_rest y ys x (suc k, h, e) = inr (k, omega arith, e)

  pub Contains-first : (y : A) (ys : List A) → Contains (y ∷ ys) y
  Contains-first y ys = (0, omega arith, refl)

  pub Contains-rest : (y : A) (ys : List A) (x : A) → Contains ys x → Contains (y ∷ ys) x
  Contains-rest y ys x (k, h, e) = (suc k, omega arith, e)

  pub none_contained : (x : A) → Contains {X = A} [] x → ⊥
  none_contained x (k, h, e) = omega arith

  pub Contains-same : (xs ys : List A) (x : A) → xs ≡ ys → Contains xs x → Contains ys x
  Contains-same xs ys x e c = let P : List A → Type 0 = λ zs. Contains zs x in subst P e c

  pub all_of_members : (P : A → Type 0) (xs : List A) → ((x : A) → Contains xs x → P x) → AllByRecursion P xs
  all_of_members P [] h = tt
  all_of_members P (x ∷ xs) h = (h x (Contains-first x xs), all_of_members P xs (λ y c. h y (Contains-rest x xs y c)))

  pub member_of_all : (P : A → Type 0) (xs : List A) (x : A) → AllByRecursion P xs → Contains xs x → P x
  member_of_all P [] x a c = absurd (none_contained x c)
  member_of_all P (y ∷ ys) x a c =
      ⊎_elim (λ e. subst P (sym e) a.0) (λ r. member_of_all P ys x a.1 r) (first_or_rest y ys x c)

module _ {A B : Type 0} (f : A → List B) where
  pub Contains-flat_map : (xs : List A) (x : A) (p : B) → Contains xs x → Contains (f x) p → Contains (flat_map f xs) p
  Contains-flat_map [] x p c d = absurd (none_contained x c)
  Contains-flat_map (y ∷ ys) x p c d =
      ⊎_elim (λ e. Contains-append_left (f y) (flat_map f ys) p (Contains-same (f x) (f y) p (ap f e) d))
      (λ r. Contains-append_right (f y) (flat_map f ys) p (Contains-flat_map ys x p r d)) (first_or_rest y ys x c)

  pub Contains-flat_map_cases : (xs : List A) (p : B) → Contains (flat_map f xs) p → (x : A) × Contains xs x × Contains (f x) p
  Contains-flat_map_cases [] p c = absurd (none_contained p c)
  Contains-flat_map_cases (y ∷ ys) p c =
      ⊎_elim (λ l. (y, Contains-first y ys, l))
      (λ r. let found = Contains-flat_map_cases ys p r in (found.0, Contains-rest y ys found.0 found.1, found.2))
      (Contains-append_cases (f y) (flat_map f ys) p c)

pub IsIncreasing-append :
    (xs ys : List (List ℤ)) → IsIncreasing xs → IsIncreasing ys
    → ((p q : List ℤ) → Contains xs p → Contains ys q → Precedes p q) → IsIncreasing (xs ++ ys)
IsIncreasing-append [] ys i j h = j
IsIncreasing-append (x ∷ xs) ys i j h = (
  all_of_members (Precedes x) (xs ++ ys) (λ q c. ⊎_elim (λ l. member_of_all (Precedes x) xs q i.0 l)
      (λ r. h x q (Contains-first x xs) r) (Contains-append_cases xs ys q c)),
  IsIncreasing-append xs ys i.1 j (λ p q c d. h p q (Contains-rest x xs p c) d),
)

-- pairs of elements, one after another
pub AllZip-push : {A B : Type 0} (R : A → B → Type 0) (xs : List A) (ys : List B) (x : A) (y : B) → AllZip R xs ys → R x y → AllZip R (xs ++ x ∷ []) (ys ++ y ∷ [])
AllZip-push R [] [] x y all here = (here, tt)
AllZip-push R [] (b ∷ ys) x y all here = absurd all
AllZip-push R (a ∷ xs) [] x y all here = absurd all
AllZip-push R (a ∷ xs) (b ∷ ys) x y all here = (all.0, AllZip-push R xs ys x y all.1 here)

pub AllZip-length : {A B : Type 0} (R : A → B → Type 0) (xs : List A) (ys : List B) → AllZip R xs ys → length xs ≡ length ys
AllZip-length R [] [] all = refl
AllZip-length R [] (b ∷ ys) all = absurd all
AllZip-length R (a ∷ xs) [] all = absurd all
AllZip-length R (a ∷ xs) (b ∷ ys) all = ap suc (AllZip-length R xs ys all.1)

-- what holds of each mapped item holds at one that was read
pub mapped_at : {A B : Type 0} (P : B → Type 0) (f : A → B) (xs : List A) (i : ℕ) (x : A) → i < length xs → x ≡ get_or xs i x → All P (map f xs) → P (f x)
mapped_at P f xs i x h is all =
    let place : i < length (map f xs) = rw length-map h in
    subst P (get_or-map f xs i x (f x) h ∙ ap f (sym is)) (All-get_or P (map f xs) i (f x) place all)

-- one more item of a list that is looked at in order
pub all_more : {A : Type 0} (P : A → Type 0) (xs : List A) (i : ℕ) (x : A) → i < length xs → x ≡ get_or xs i x
    → All P (take (i + 1) xs) ↔ (All P (take i xs) × P x)
all_more P xs i x h is = (
  λ all.
      let first : All P (take i xs) = subst (All P) (take-take i (i + 1) xs (omega arith)) (All-take P i (take (i + 1) xs) all) in
      let inside : i < length (take (i + 1) xs) = omega (arith, length-take (i + 1) xs) in
      (first, subst P (get_or-take (i + 1) xs i x (omega arith) ∙ sym is) (All-get_or P (take (i + 1) xs) i x inside all)),
  λ both. All-more P xs i x h both.0 (subst P is both.1),
)

-- some item of a list with one more
pub Any-push : {A : Type 0} (P : A → Type 0) (xs : List A) (x : A) → Any P (xs ++ x ∷ []) ↔ (Any P xs ⊎ P x)
Any-push P xs x =
    let parts = Any-append P xs (x ∷ []) in (
      λ a. ⊎_elim (λ l. inl l) (λ r. ⊎_elim (λ here. inr here) (λ none. absurd (Any-nil P none)) (Any-cons P x [] r)) (parts.0 a),
      λ b. parts.1 (⊎_elim (λ l. inl l) (λ r. inr (Any-here P x [] r)) b),
    )

-- two lists at one place
pub AllZip-at : {A B : Type 0} (R : A → B → Type 0) (xs : List A) (ys : List B) (i : ℕ) (d : A) (e : B) → i < length xs → AllZip R xs ys → R (get_or xs i d) (get_or ys i e)
AllZip-at R [] ys i d e h all = absurd (omega arith)
AllZip-at R (a ∷ xs) [] i d e h all = absurd all
AllZip-at R (a ∷ xs) (b ∷ ys) zero d e h all = all.0
AllZip-at R (a ∷ xs) (b ∷ ys) (suc i) d e h all = AllZip-at R xs ys i d e (omega arith) all.1
