-- The first of some heads, with one more looked at.
use Rattle.std.proofs.Common.{◌≡◌, ℕ, zero, suc, ◌+◌, ◌<◌, Bool, true, false, List, [], ◌∷◌, length, map, get_or, refl, sym, subst, ap, arith, inl, inr, ⊎_elim, Option, Some, None}
use Rattle.std.specs.Prelude.{ℤ, Contains}
use Rattle.std.specs.List.{All}
use Rattle.std.proofs.lemmas.Bool.{cases_lt}
use Rattle.std.proofs.lemmas.List.{get_or_default, get_or_read}
use Rattle.std.proofs.lemmas.List.Elements.{All-get_or}
use Rattle.az_ast.specs.Points.{Precedes, IsIncreasing}
use Rattle.az_ast.proofs.TableLemmas.{Precedes-differs, Precedes-chain}
use Rattle.loop_scan.specs.declared.head.Head.{Head}
use Rattle.loop_scan.specs.Nest.Walks.{to_come}
use Rattle.loop_scan.specs.Nest.Merges.{merged, passed, ahead, IsHead, IsLive, Comes, IsFirst}
use Rattle.loop_scan.proofs.Lists.{first_or_rest, Contains-first, Contains-rest, none_contained, Contains-same}
use Rattle.loop_scan.proofs.Merging.{BeginsAfter, merged-step}

-- below one more
pub below_one : {P : Type 0} (k n : ℕ) → k < n + 1 → (k < n → P) → (k ≡ n → P) → P
below_one k n h less same = elim (cases_lt k n) [ inl l ↦ less l | inr g ↦ same (omega arith) ]

module _ (heads : List Head) (n : ℕ) (head : Head) where
  not_live : (get_or heads n head).live ≡ false → (k : ℕ) → k ≡ n → IsLive heads k → ⊥
  not_live dead k e live = let P : ℕ → Type 0 = IsLive heads in let at = (subst P e live) head in cc

  pub first-dead : (o : Option ℕ) → (get_or heads n head).live ≡ false → IsFirst heads n o → IsFirst heads (n + 1) o
  first-dead None dead is = λ k h live. below_one k n h (λ l. is k l live) (λ e. not_live dead k e live)
  first-dead (Some b) dead is = (omega (arith, is.0), is.1, λ k h live comes. below_one k n h (λ l. is.2 k l live comes) (λ e. not_live dead k e live))

  not_before_itself : (k : ℕ) → k ≡ n → Comes heads k n → ⊥
  not_before_itself k e comes = let P : ℕ → Type 0 = λ j. Comes heads j n in
      Precedes-differs (get_or heads n head).walk.point.items (get_or heads n head).walk.point.items ((subst P e comes) head) refl

  pub first-none : IsLive heads n → IsFirst heads n None → IsFirst heads (n + 1) (Some n)
  first-none live is = (omega arith, live, λ k h alive comes. below_one k n h (λ l. is k l alive) (λ e. not_before_itself k e comes))

  pub first-better : (b : ℕ) → IsLive heads n → Comes heads n b → IsFirst heads n (Some b) → IsFirst heads (n + 1) (Some n)
  first-better b live before is = (
    omega arith,
    live,
    λ k h alive comes. below_one k n h
        (λ l. is.2 k l alive (λ d. Precedes-chain (get_or heads k d).walk.point.items (get_or heads n d).walk.point.items (get_or heads b d).walk.point.items (comes d) (before d)))
        (λ e. not_before_itself k e comes),
  )

  pub first-kept : (b : ℕ) → (Comes heads n b → ⊥) → IsFirst heads n (Some b) → IsFirst heads (n + 1) (Some b)
  first-kept b not_before is = (
    omega (arith, is.0),
    is.1,
    λ k h alive comes. below_one k n h (λ l. is.2 k l alive comes)
        (λ e. let P : ℕ → Type 0 = λ j. Comes heads j b in not_before (subst P e comes)),
  )

-- heads that were read stand at their places
pub comes_from : (heads : List Head) (j k : ℕ) (x y : Head) → j < length heads → k < length heads → x ≡ get_or heads j x → y ≡ get_or heads k y
    → Precedes x.walk.point.items y.walk.point.items → Comes heads j k
comes_from heads j k x y h i p q before d =
    let left : x ≡ get_or heads j d = get_or_read heads j x h p d in
    let right : y ≡ get_or heads k d = get_or_read heads k y i q d in
    let P : Head → Head → Type 0 = λ a b. Precedes a.walk.point.items b.walk.point.items in
    subst (λ a. P a (get_or heads k d)) left (subst (λ b. P x b) right before)

pub live_from : (heads : List Head) (j : ℕ) (x : Head) → j < length heads → x ≡ get_or heads j x → x.live ≡ true → IsLive heads j
live_from heads j x h p live d = let P : Head → Type 0 = λ a. a.live ≡ true in subst P (get_or_read heads j x h p d) live

-- what the heads have, as lists
ahead-live : (head : Head) → head.live ≡ true → ahead head ≡ head.walk.point.items ∷ to_come head.walk
ahead-live head e = rw e refl

ahead-dead : (head : Head) → head.live ≡ false → ahead head ≡ []
ahead-dead head e = rw e refl

-- each list comes from a head
list_of : (heads : List Head) (d : Head) (l : List (List ℤ)) → Contains (map ahead heads) l → (k : ℕ) × (k < length heads) × (l ≡ ahead (get_or heads k d))
list_of [] d l c = absurd (none_contained l c)
list_of (head ∷ heads) d l c =
    ⊎_elim (λ e. (0, omega arith, e))
    (λ r. let found = list_of heads d l r in (suc found.0, omega (arith, found.1), found.2)) (first_or_rest (ahead head) (map ahead heads) l c)

has_list : (heads : List Head) (d : Head) (k : ℕ) → k < length heads → Contains (map ahead heads) (ahead (get_or heads k d))
has_list [] d k h = absurd (omega arith)
has_list (head ∷ heads) d zero h = Contains-first (ahead head) (map ahead heads)
has_list (head ∷ heads) d (suc k) h = Contains-rest (ahead head) (map ahead heads) (ahead (get_or heads k d)) (has_list heads d k (omega arith))

-- the point of the first comes first of all
module _ (width : ℕ) (heads : List Head) (first : ℕ) (d : Head) (states : All (IsHead width) heads) (is : IsFirst heads (length heads) (Some first)) where
  begins : (head : Head) → (head.live ≡ true → Precedes head.walk.point.items (get_or heads first d).walk.point.items → ⊥) → BeginsAfter (get_or heads first d).walk.point.items (ahead head)
  begins head h = by head.live refl
    where
      by : (b : Bool) → head.live ≡ b → BeginsAfter (get_or heads first d).walk.point.items (ahead head)
      by true e = let P : List (List ℤ) → Type 0 = BeginsAfter (get_or heads first d).walk.point.items in subst P (sym (ahead-live head e)) (h e)
      by false e = let P : List (List ℤ) → Type 0 = BeginsAfter (get_or heads first d).walk.point.items in subst P (sym (ahead-dead head e)) tt

  each : (l : List (List ℤ)) → Contains (map ahead heads) l → IsIncreasing l × BeginsAfter (get_or heads first d).walk.point.items l
  each l c =
      let found = list_of heads d l c in
      let head = get_or heads found.0 d in
      let P : List (List ℤ) → Type 0 = λ ys. IsIncreasing ys × BeginsAfter (get_or heads first d).walk.point.items ys in
      subst P (sym found.2) (
        (All-get_or (IsHead width) heads found.0 d found.1 states).increasing,
        begins head (λ live before. is.2 found.0 found.1
            (λ d'. let same = get_or_default heads found.0 d d' found.1 in let Q : Head → Type 0 = λ x. x.live ≡ true in subst Q same live)
            (λ d'. let same = get_or_default heads found.0 d d' found.1 in let other = get_or_default heads first d d' is.0 in
            let Q : Head → Head → Type 0 = λ x y. Precedes x.walk.point.items y.walk.point.items in
            subst (λ x. Q x (get_or heads first d')) same (subst (λ y. Q (get_or heads found.0 d) y) other before))),
      )

  pub merged-first : merged (map ahead heads) ≡ (get_or heads first d).walk.point.items ∷ merged (map (passed (get_or heads first d).walk.point.items) (map ahead heads))
  merged-first =
      let head = get_or heads first d in
      let begin : ahead head ≡ head.walk.point.items ∷ to_come head.walk = ahead-live head (is.1 d) in
      merged-step head.walk.point.items (map ahead heads) each
      (ahead head, has_list heads d first is.0, Contains-same (head.walk.point.items ∷ to_come head.walk) (ahead head) head.walk.point.items (sym begin) (Contains-first head.walk.point.items (to_come head.walk)))

-- where no head is live, nothing is to come
pub merged-none : (heads : List Head) → IsFirst heads (length heads) None → merged (map ahead heads) ≡ []
merged-none [] is = refl
merged-none (head ∷ heads) is = by (merged-none heads (λ k h live. is (suc k) (omega arith) live)) head.live refl
  where
    by : merged (map ahead heads) ≡ [] → (b : Bool) → head.live ≡ b → merged (map ahead (head ∷ heads)) ≡ []
    by rest true e = absurd (is 0 (omega arith) (λ d. e))
    by rest false e = rw (ahead-dead head e) rest

-- heads that go past a point one after another
pub all_passed : (point : List ℤ) (old new : List Head) → length new ≡ length old
    → ((k : ℕ) (d : Head) → k < length old → ahead (get_or new k d) ≡ passed point (ahead (get_or old k d)))
    → map ahead new ≡ map (λ head. passed point (ahead head)) old
all_passed point [] [] e each = refl
all_passed point [] (y ∷ ys) e each = absurd (omega arith)
all_passed point (x ∷ xs) [] e each = absurd (omega arith)
all_passed point (x ∷ xs) (y ∷ ys) e each =
    cc (each 0 x (omega arith), all_passed point xs ys (omega arith) (λ k d h. each (suc k) d (omega arith)))

pub map-map-passed : (point : List ℤ) (heads : List Head) → map (passed point) (map ahead heads) ≡ map (λ head. passed point (ahead head)) heads
map-map-passed point [] = refl
map-map-passed point (x ∷ xs) = ap (λ rest. passed point (ahead x) ∷ rest) (map-map-passed point xs)
