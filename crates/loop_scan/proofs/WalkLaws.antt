-- A walk gives each point that passes the levels, no other, and in order.
use Rattle.std.proofs.Common.{◌≡◌, ℕ, zero, suc, List, [], ◌∷◌, ◌++◌, length, refl, sym, subst, ap, ◌∙◌, arith, ⊎_elim, append_assoc}
use Rattle.std.specs.Prelude.{ℤ, pos, ◌+ℤ◌, ◌<ℤ◌, Contains}
use Rattle.std.specs.List.{All, flat_map}
use Rattle.std.specs.declared.cmp.Ordering.TheVariants.{Less, Equal}
use Rattle.std.specs.Ordering.{int_cmp, ordering_then}
use Rattle.std.specs.Cmp.{int_cmp_is}
use Rattle.std.specs.Cmp.Lexicographic.{slice_cmp}
use Rattle.std.proofs.lemmas.Int.{ints}
use Rattle.std.proofs.lemmas.List.{append-nil}
use Rattle.std.proofs.lemmas.List.Elements.{All-push}
use Rattle.az_lin.specs.Affine.{IsCoordinate}
use Rattle.az_ast.specs.Points.{Precedes, IsIncreasing}
use Rattle.loop_scan.specs.declared.level.Level.{Level}
use Rattle.loop_scan.specs.Nest.Levels.{range_at, AreLevels}
use Rattle.loop_scan.specs.Nest.Walks.{counted, integers, walk, Passes}
use Rattle.loop_scan.proofs.Lists.{first_or_rest, Contains-first, none_contained, Contains-flat_map, Contains-flat_map_cases, IsIncreasing-append}
use Rattle.loop_scan.proofs.Ranges.{integers-has, integers-only, counted-only, HasCoordinates-range_at}

pub walk-has : (levels : List Level) (z y : List ℤ) → Passes levels z y → Contains (walk levels z) (z ++ y)
walk-has [] z [] h = let P : List ℤ → Type 0 = λ p. Contains (z ∷ []) p in subst P (sym (append-nil z)) (Contains-first z [])
walk-has [] z (x ∷ y) h = absurd h
walk-has (level ∷ levels) z [] h = absurd h
walk-has (level ∷ levels) z (x ∷ y) h =
    let P : List ℤ → Type 0 = λ p. Contains (walk (level ∷ levels) z) p in
    subst P (append_assoc z (x ∷ []) y)
    (Contains-flat_map (λ v. walk levels (z ++ v ∷ [])) (integers (range_at level z)) x ((z ++ x ∷ []) ++ y)
    (integers-has (range_at level z) x h.0) (walk-has levels (z ++ x ∷ []) y h.1))

pub walk-only : (levels : List Level) (z p : List ℤ) → Contains (walk levels z) p → (y : List ℤ) × (p ≡ z ++ y) × Passes levels z y
walk-only [] z p c = ⊎_elim (λ e. ([], e ∙ sym (append-nil z), tt)) (λ r. absurd (none_contained p r)) (first_or_rest z [] p c)
walk-only (level ∷ levels) z p c =
    let found = Contains-flat_map_cases (λ v. walk levels (z ++ v ∷ [])) (integers (range_at level z)) p c in
    let x = found.0 in
    let rest = walk-only levels (z ++ x ∷ []) p found.2 in
    (x ∷ rest.0, rest.1 ∙ append_assoc z (x ∷ []) rest.0, (integers-only (range_at level z) x found.1, rest.2))

pub length-passes : (levels : List Level) (z y : List ℤ) → Passes levels z y → length y ≡ length levels
length-passes [] z [] h = refl
length-passes [] z (x ∷ y) h = absurd h
length-passes (level ∷ levels) z [] h = absurd h
length-passes (level ∷ levels) z (x ∷ y) h = ap suc (length-passes levels (z ++ x ∷ []) y h.1)

-- points that first differ by a smaller coordinate
Precedes-differing : (z : List ℤ) (x y : ℤ) (a b : List ℤ) → x <ℤ y → Precedes (z ++ x ∷ a) (z ++ y ∷ b)
Precedes-differing [] x y a b h =
    let e : Less ≡ int_cmp x y = int_cmp_is x y Less h in
    ap (λ o. ordering_then o (slice_cmp int_cmp a b)) (sym e)
Precedes-differing (w ∷ z) x y a b h =
    let e : Equal ≡ int_cmp w w = int_cmp_is w w Equal refl in
    ap (λ o. ordering_then o (slice_cmp int_cmp (z ++ x ∷ a) (z ++ y ∷ b))) (sym e) ∙ Precedes-differing z x y a b h

later_walks : (levels : List Level) (z : List ℤ) (x y : ℤ) (p q : List ℤ) → x <ℤ y → Contains (walk levels (z ++ x ∷ [])) p → Contains (walk levels (z ++ y ∷ [])) q → Precedes p q
later_walks levels z x y p q h c d =
    let left = walk-only levels (z ++ x ∷ []) p c in
    let right = walk-only levels (z ++ y ∷ []) q d in
    let P : List ℤ → List ℤ → Type 0 = Precedes in
    let e : p ≡ z ++ (x ∷ left.0) = left.1 ∙ append_assoc z (x ∷ []) left.0 in
    let f : q ≡ z ++ (y ∷ right.0) = right.1 ∙ append_assoc z (y ∷ []) right.0 in
    subst (λ r. Precedes r q) (sym e) (subst (λ r. Precedes (z ++ (x ∷ left.0)) r) (sym f) (Precedes-differing z x y left.0 right.0 h))

increasing_from : (levels : List Level) (z : List ℤ) (low : ℤ) (n : ℕ) → ((x : ℤ) → IsIncreasing (walk levels (z ++ x ∷ [])))
    → IsIncreasing (flat_map (λ x. walk levels (z ++ x ∷ [])) (counted low n))
increasing_from levels z low zero each = tt
increasing_from levels z low (suc n) each =
    IsIncreasing-append (walk levels (z ++ low ∷ [])) (flat_map (λ x. walk levels (z ++ x ∷ [])) (counted (low +ℤ pos 1) n))
    (each low) (increasing_from levels z (low +ℤ pos 1) n each)
    (λ p q c d. let found = Contains-flat_map_cases (λ x. walk levels (z ++ x ∷ [])) (counted (low +ℤ pos 1) n) q d in
    let above = counted-only (low +ℤ pos 1) n found.0 found.1 in
    later_walks levels z low found.0 p q (omega (arith, ints)) c found.2)

pub walk-increasing : (levels : List Level) (z : List ℤ) → IsIncreasing (walk levels z)
walk-increasing [] z = (tt, tt)
walk-increasing (level ∷ levels) z =
    increasing_from levels z (range_at level z).low _ (λ x. walk-increasing levels (z ++ x ∷ []))

-- all coordinates of its points are small
passes-coordinates : (k : ℕ) (levels : List Level) (z y : List ℤ) → AreLevels k levels → Passes levels z y → All IsCoordinate z → All IsCoordinate (z ++ y)
passes-coordinates k [] z [] are h small = let P : List ℤ → Type 0 = All IsCoordinate in subst P (sym (append-nil z)) small
passes-coordinates k [] z (x ∷ y) are h small = absurd h
passes-coordinates k (level ∷ levels) z [] are h small = absurd h
passes-coordinates k (level ∷ levels) z (x ∷ y) are h small =
    let P : List ℤ → Type 0 = All IsCoordinate in
    subst P (append_assoc z (x ∷ []) y)
    (passes-coordinates (suc k) levels (z ++ x ∷ []) y are.1 h.1
    (All-push IsCoordinate z x small (HasCoordinates-range_at k level z are.0 x h.0)))

pub walk-coordinates : (levels : List Level) (p : List ℤ) → AreLevels 0 levels → Contains (walk levels []) p → All IsCoordinate p
walk-coordinates levels p are c =
    let found = walk-only levels [] p c in
    let P : List ℤ → Type 0 = All IsCoordinate in
    subst P (sym found.1) (passes-coordinates 0 levels [] found.0 are found.2 (λ k d h. absurd (omega arith)))
