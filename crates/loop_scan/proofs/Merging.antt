-- Increasing lists merged into one: it is increasing, has the members of all, and its first is the least.
use Rattle.std.proofs.Common.{◌≡◌, cond, List, [], ◌∷◌, map, refl, sym, subst, ap, ◌∙◌, inl, inr, ⊎_elim}
use Rattle.std.specs.Prelude.{ℤ, Contains, ◌⊎◌}
use Rattle.std.specs.declared.cmp.Ordering.{Ordering}
use Rattle.std.specs.declared.cmp.Ordering.TheVariants.{Less, Equal, Greater}
use Rattle.std.specs.Ordering.{int_cmp, is_eq, ordering_reverse}
use Rattle.std.specs.Cmp.{int_cmp_total}
use Rattle.std.specs.Cmp.Lexicographic.{slice_cmp, lists_total}
use Rattle.az_ast.specs.Points.{Precedes, IsIncreasing}
use Rattle.az_ast.proofs.TableLemmas.{same_point, Precedes-chain}
use Rattle.az_ast.proofs.Members.{same_points}
use Rattle.loop_scan.specs.Nest.Merges.{placed, inserted, united, merged, passed}
use Rattle.loop_scan.proofs.Lists.{first_or_rest, Contains-first, Contains-rest, none_contained, all_of_members, member_of_all}

abbrev order : List ℤ → List ℤ → Ordering
order p q = slice_cmp int_cmp p q

-- three ways for two points
pub compared : (P : Ordering → Type 0) (p q : List ℤ) → (Precedes p q → P Less) → (p ≡ q → P Equal) → (Precedes q p → P Greater) → P (order p q)
compared P p q before same after = by (order p q) refl
  where
    by : (r : Ordering) → order p q ≡ r → P r
    by Less e = before e
    by Equal e = same (same_point p q e)
    by Greater e = after ((lists_total int_cmp_total).antisymm q p ∙ ap ordering_reverse e)

pub Precedes-cases : {P : Type 0} (p q : List ℤ) → (Precedes p q → P) → (p ≡ q → P) → (Precedes q p → P) → P
Precedes-cases {P} p q before same after = compared (λ r. P) p q before same after

-- a point put in
inserted-itself : (p : List ℤ) (qs : List (List ℤ)) → Contains (inserted p qs) p
inserted-itself p [] = Contains-first p []
inserted-itself p (q ∷ qs) =
    compared (λ r. Contains (placed r p q qs (inserted p qs)) p) p q
    (λ l. Contains-first p (q ∷ qs))
    (λ e. let P : List ℤ → Type 0 = λ x. Contains (q ∷ qs) x in subst P (sym e) (Contains-first q qs))
    (λ g. Contains-rest q (inserted p qs) p (inserted-itself p qs))

inserted-others : (p : List ℤ) (qs : List (List ℤ)) (x : List ℤ) → Contains qs x → Contains (inserted p qs) x
inserted-others p [] x c = absurd (none_contained x c)
inserted-others p (q ∷ qs) x c =
    compared (λ r. Contains (placed r p q qs (inserted p qs)) x) p q
    (λ l. Contains-rest p (q ∷ qs) x c) (λ e. c)
    (λ g. ⊎_elim (λ e. let P : List ℤ → Type 0 = λ y. Contains (q ∷ inserted p qs) y in subst P (sym e) (Contains-first q (inserted p qs)))
    (λ r. Contains-rest q (inserted p qs) x (inserted-others p qs x r)) (first_or_rest q qs x c))

inserted-only : (p : List ℤ) (qs : List (List ℤ)) (x : List ℤ) → Contains (inserted p qs) x → (x ≡ p) ⊎ Contains qs x
inserted-only p [] x = λ c. ⊎_elim (λ e. inl e) (λ r. absurd (none_contained x r)) (first_or_rest p [] x c)
inserted-only p (q ∷ qs) x =
    compared (λ r. Contains (placed r p q qs (inserted p qs)) x → (x ≡ p) ⊎ Contains (q ∷ qs) x) p q
    (λ l c. first_or_rest p (q ∷ qs) x c) (λ e c. inr c)
    (λ g c. ⊎_elim (λ e. let P : List ℤ → Type 0 = λ y. Contains (q ∷ qs) y in inr (subst P (sym e) (Contains-first q qs)))
    (λ r. ⊎_elim (λ e. inl e) (λ s. inr (Contains-rest q qs x s)) (inserted-only p qs x r)) (first_or_rest q (inserted p qs) x c))

inserted-increasing : (p : List ℤ) (qs : List (List ℤ)) → IsIncreasing qs → IsIncreasing (inserted p qs)
inserted-increasing p [] i = (tt, tt)
inserted-increasing p (q ∷ qs) i =
    compared (λ r. IsIncreasing (placed r p q qs (inserted p qs))) p q
    (λ l. ((l, all_of_members (Precedes p) qs (λ x c. Precedes-chain p q x l (member_of_all (Precedes q) qs x i.0 c))), i))
    (λ e. i)
    (λ g. (
      all_of_members (Precedes q) (inserted p qs)
          (λ x c. ⊎_elim (λ e. let P : List ℤ → Type 0 = Precedes q in subst P (sym e) g) (λ r. member_of_all (Precedes q) qs x i.0 r) (inserted-only p qs x c)),
      inserted-increasing p qs i.1,
    ))

-- one list put into another
united-left : (ps qs : List (List ℤ)) (x : List ℤ) → Contains ps x → Contains (united ps qs) x
united-left [] qs x c = absurd (none_contained x c)
united-left (p ∷ ps) qs x c =
    ⊎_elim (λ e. let P : List ℤ → Type 0 = λ y. Contains (inserted p (united ps qs)) y in subst P (sym e) (inserted-itself p (united ps qs)))
    (λ r. inserted-others p (united ps qs) x (united-left ps qs x r)) (first_or_rest p ps x c)

united-right : (ps qs : List (List ℤ)) (x : List ℤ) → Contains qs x → Contains (united ps qs) x
united-right [] qs x c = c
united-right (p ∷ ps) qs x c = inserted-others p (united ps qs) x (united-right ps qs x c)

united-only : (ps qs : List (List ℤ)) (x : List ℤ) → Contains (united ps qs) x → Contains ps x ⊎ Contains qs x
united-only [] qs x c = inr c
united-only (p ∷ ps) qs x c =
    ⊎_elim (λ e. let P : List ℤ → Type 0 = λ y. Contains (p ∷ ps) y in inl (subst P (sym e) (Contains-first p ps)))
    (λ r. ⊎_elim (λ l. inl (Contains-rest p ps x l)) (λ q. inr q) (united-only ps qs x r)) (inserted-only p (united ps qs) x c)

united-increasing : (ps qs : List (List ℤ)) → IsIncreasing qs → IsIncreasing (united ps qs)
united-increasing [] qs i = i
united-increasing (p ∷ ps) qs i = inserted-increasing p (united ps qs) (united-increasing ps qs i)

-- all lists
abbrev Lists : Type 0
Lists = List (List (List ℤ))

pub merged-has : (lists : Lists) (l : List (List ℤ)) (x : List ℤ) → Contains lists l → Contains l x → Contains (merged lists) x
merged-has [] l x c d = absurd (none_contained l c)
merged-has (ps ∷ lists) l x c d =
    ⊎_elim (λ e. let P : List (List ℤ) → Type 0 = λ ys. Contains ys x in united-left ps (merged lists) x (subst P e d))
    (λ r. united-right ps (merged lists) x (merged-has lists l x r d)) (first_or_rest ps lists l c)

pub merged-only : (lists : Lists) (x : List ℤ) → Contains (merged lists) x → (l : List (List ℤ)) × Contains lists l × Contains l x
merged-only [] x c = absurd (none_contained x c)
merged-only (ps ∷ lists) x c =
    ⊎_elim (λ l. (ps, Contains-first ps lists, l))
    (λ r. let found = merged-only lists x r in (found.0, Contains-rest ps lists found.0 found.1, found.2)) (united-only ps (merged lists) x c)

pub merged-increasing : (lists : Lists) → IsIncreasing (merged lists)
merged-increasing [] = tt
merged-increasing (ps ∷ lists) = united-increasing ps (merged lists) (merged-increasing lists)

-- past a point
passed-keeps : (p : List ℤ) (l : List (List ℤ)) (x : List ℤ) → Contains (passed p l) x → Contains l x
passed-keeps p [] x = λ c. c
passed-keeps p (q ∷ qs) x =
    compared (λ r. Contains (cond (is_eq r) qs (q ∷ qs)) x → Contains (q ∷ qs) x) q p (λ l c. c) (λ e c. Contains-rest q qs x c) (λ g c. c)

passed-has : (p : List ℤ) (l : List (List ℤ)) (x : List ℤ) → Contains l x → (x ≡ p) ⊎ Contains (passed p l) x
passed-has p [] x c = inr c
passed-has p (q ∷ qs) x c =
    compared (λ r. (x ≡ p) ⊎ Contains (cond (is_eq r) qs (q ∷ qs)) x) q p (λ l. inr c)
    (λ e. ⊎_elim (λ f. inl (f ∙ e)) (λ r. inr r) (first_or_rest q qs x c)) (λ g. inr c)

pub passed-increasing : (p : List ℤ) (l : List (List ℤ)) → IsIncreasing l → IsIncreasing (passed p l)
passed-increasing p [] i = i
passed-increasing p (q ∷ qs) i = compared (λ r. IsIncreasing (cond (is_eq r) qs (q ∷ qs))) q p (λ l. i) (λ e. i.1) (λ g. i)

-- no list begins before the point
abbrev pub BeginsAfter : List ℤ → List (List ℤ) → Type 0
BeginsAfter p [] = Unit {0}
BeginsAfter p (q ∷ qs) = Precedes q p → ⊥

passed-later : (p : List ℤ) (l : List (List ℤ)) (x : List ℤ) → IsIncreasing l → BeginsAfter p l → Contains (passed p l) x → Precedes p x
passed-later p [] x i b = λ c. absurd (none_contained x c)
passed-later p (q ∷ qs) x i b =
    compared (λ r. Contains (cond (is_eq r) qs (q ∷ qs)) x → Precedes p x) q p
    (λ l c. absurd (b l))
    (λ e c. let P : List ℤ → Type 0 = λ y. Precedes y x in subst P e (member_of_all (Precedes q) qs x i.0 c))
    (λ g c. ⊎_elim (λ e. let P : List ℤ → Type 0 = Precedes p in subst P (sym e) g)
    (λ r. Precedes-chain p q x g (member_of_all (Precedes q) qs x i.0 r)) (first_or_rest q qs x c))

mapped_member : (p : List ℤ) (lists : Lists) (m : List (List ℤ)) → Contains (map (passed p) lists) m → (l : List (List ℤ)) × Contains lists l × (m ≡ passed p l)
mapped_member p [] m c = absurd (none_contained m c)
mapped_member p (l ∷ lists) m c =
    ⊎_elim (λ e. (l, Contains-first l lists, e))
    (λ r. let found = mapped_member p lists m r in (found.0, Contains-rest l lists found.0 found.1, found.2)) (first_or_rest (passed p l) (map (passed p) lists) m c)

map_member : (p : List ℤ) (lists : Lists) (l : List (List ℤ)) → Contains lists l → Contains (map (passed p) lists) (passed p l)
map_member p [] l c = absurd (none_contained l c)
map_member p (m ∷ lists) l c =
    ⊎_elim (λ e. let P : List (List ℤ) → Type 0 = λ ys. Contains (passed p m ∷ map (passed p) lists) ys in subst P (ap (passed p) (sym e)) (Contains-first (passed p m) (map (passed p) lists)))
    (λ r. Contains-rest (passed p m) (map (passed p) lists) (passed p l) (map_member p lists l r)) (first_or_rest m lists l c)

-- where a list begins with the point, and none before it, it comes first and all lists go past it
module _ (p : List ℤ) (lists : Lists) (each : (l : List (List ℤ)) → Contains lists l → IsIncreasing l × BeginsAfter p l)
    (first : (l : List (List ℤ)) × Contains lists l × Contains l p) where
  rest_later : (x : List ℤ) → Contains (merged (map (passed p) lists)) x → Precedes p x
  rest_later x c =
      let found = merged-only (map (passed p) lists) x c in
      let from = mapped_member p lists found.0 found.1 in
      let is = each from.0 from.1 in
      let P : List (List ℤ) → Type 0 = λ ys. Contains ys x in
      passed-later p from.0 x is.0 is.1 (subst P from.2 found.2)

  forth : (x : List ℤ) → Contains (merged lists) x → Contains (p ∷ merged (map (passed p) lists)) x
  forth x c =
      let rest = merged (map (passed p) lists) in
      let found = merged-only lists x c in
      ⊎_elim (λ e. let P : List ℤ → Type 0 = λ y. Contains (p ∷ rest) y in subst P (sym e) (Contains-first p rest))
      (λ r. Contains-rest p rest x (merged-has (map (passed p) lists) (passed p found.0) x (map_member p lists found.0 found.1) r)) (passed-has p found.0 x found.2)

  back : (x : List ℤ) → Contains (p ∷ merged (map (passed p) lists)) x → Contains (merged lists) x
  back x c =
      ⊎_elim (λ e. let P : List ℤ → Type 0 = λ y. Contains (merged lists) y in subst P (sym e) (merged-has lists first.0 p first.1 first.2))
      (λ r. let found = merged-only (map (passed p) lists) x r in
      let from = mapped_member p lists found.0 found.1 in
      let P : List (List ℤ) → Type 0 = λ ys. Contains ys x in
      merged-has lists from.0 x from.1 (passed-keeps p from.0 x (subst P from.2 found.2)))
      (first_or_rest p (merged (map (passed p) lists)) x c)

  pub merged-step : merged lists ≡ p ∷ merged (map (passed p) lists)
  merged-step =
      same_points (merged lists) (p ∷ merged (map (passed p) lists)) (merged-increasing lists)
      (all_of_members (Precedes p) (merged (map (passed p) lists)) rest_later, merged-increasing (map (passed p) lists)) forth back
