-- Tables as a binary search sees them.
use Rattle.std.proofs.Common.{◌≡◌, ℕ, zero, suc, ◌<◌, ◌≤◌, List, [], ◌∷◌, ◌++◌, length, refl, sym, subst, ◌∙◌, arith, inl, inr, ⊎_elim}
use Rattle.std.specs.Prelude.{ℤ, slice_index_or, map}
use Rattle.std.specs.List.{AllByRecursion}
use Rattle.std.specs.List.Sorted.{IsNonDecreasingBy, IsPartitionPoint}
use Rattle.std.specs.declared.cmp.Ordering.{Ordering}
use Rattle.std.specs.declared.cmp.Ordering.TheVariants.{Less, Equal, Greater}
use Rattle.std.specs.Ordering.{int_cmp, ordering_index, ordering_reverse, ordering_then}
use Rattle.std.specs.Cmp.{IsTotalOrder, int_cmp_total}
use Rattle.std.specs.Cmp.Lexicographic.{slice_cmp, lists_total}
use Rattle.std.specs.FinMap.{int_cmp-IsAntisymmetric, slice_cmp-IsAntisymmetric}
use Rattle.std.proofs.lemmas.Bool.{cases_lt}
use Rattle.az_ast.specs.Points.{Precedes}
use Rattle.az_ast.specs.Tables.{Rows, IsTable, TableGives}

points_total : IsTotalOrder (slice_cmp int_cmp)
points_total = lists_total int_cmp_total

-- points that compare as equal are equal, and no point precedes itself
pub same_point : (a b : List ℤ) → slice_cmp int_cmp a b ≡ Equal → a ≡ b
same_point a b e = slice_cmp-IsAntisymmetric int_cmp-IsAntisymmetric a b e

itself : (r : Ordering) → r ≡ ordering_reverse r → r ≡ Equal
itself Less e = cc
itself Equal e = refl
itself Greater e = cc

pub equal_points : (a b : List ℤ) → a ≡ b → slice_cmp int_cmp a b ≡ Equal
equal_points a b e = subst (λ p. slice_cmp int_cmp a p ≡ Equal) e (itself (slice_cmp int_cmp a a) (points_total.antisymm a a))

pub Precedes-differs : (a b : List ℤ) → Precedes a b → a ≡ b → ⊥
Precedes-differs a b l e = let q = equal_points a b e in cc

-- behind the same coordinates points compare as before
pub compared-append : (z a b : List ℤ) → slice_cmp int_cmp (z ++ a) (z ++ b) ≡ slice_cmp int_cmp a b
compared-append [] a b = refl
compared-append (c ∷ z) a b =
    let same : int_cmp c c ≡ Equal = itself (int_cmp c c) (int_cmp_total.antisymm c c) in
    subst (λ r. ordering_then r (slice_cmp int_cmp (z ++ a) (z ++ b)) ≡ slice_cmp int_cmp a b) (sym same) (compared-append z a b)

pub Precedes-append : (z a b : List ℤ) → Precedes a b → Precedes (z ++ a) (z ++ b)
Precedes-append z a b h = compared-append z a b ∙ h

later-precedes : (p : List ℤ) (rows : Rows) (k : ℕ) (d : List ℤ × ℤ) → AllByRecursion (Precedes p) (map (λ row. row.0) rows) → k < length rows → Precedes p (slice_index_or rows k d).0
later-precedes p [] k d a h = absurd (omega arith)
later-precedes p (row ∷ rows) zero d a h = a.0
later-precedes p (row ∷ rows) (suc k) d a h = later-precedes p rows k d a.1 (omega arith)

module _ (z : List ℤ) where
  abbrev place : List ℤ × ℤ → Ordering
  place row = slice_cmp int_cmp row.0 z

  -- the row whose point is `z` is the first
  pub TableGives-at : (rows : Rows) → IsTable rows → (k : ℕ) (d : List ℤ × ℤ) → k < length rows → place (slice_index_or rows k d) ≡ Equal → TableGives rows z (slice_index_or rows k d).1
  TableGives-at [] t k d h e = absurd (omega arith)
  TableGives-at (row ∷ rows) t zero d h e = inl (same_point row.0 z e, refl)
  TableGives-at (row ∷ rows) t (suc k) d h e = inr ((λ q. Precedes-differs row.0 (slice_index_or rows k d).0 (later-precedes row.0 rows k d t.0 (omega arith)) (q ∙ sym (same_point (slice_index_or rows k d).0 z e))), TableGives-at rows t.1 k d (omega arith) e)

  -- where no row has the point, the table gives nothing
  pub TableGives-none : (rows : Rows) → ((k : ℕ) (d : List ℤ × ℤ) → k < length rows → place (slice_index_or rows k d) ≡ Equal → ⊥) → (v : ℤ) → TableGives rows z v → ⊥
  TableGives-none [] absent v g = g
  TableGives-none (row ∷ rows) absent v g =
      ⊎_elim (λ here. absent 0 row (omega arith) (equal_points row.0 z here.0))
      (λ there. TableGives-none rows (λ k d h e. absent (suc k) d (omega arith) e) v there.1) g

  -- before a point that is not after `z` a point is before `z`
  below_place : (a b : List ℤ) → Precedes a b → (slice_cmp int_cmp b z ≡ Greater → ⊥) → slice_cmp int_cmp a z ≡ Less
  below_place a b l g = by (slice_cmp int_cmp b z) refl
    where
      by : (r : Ordering) → slice_cmp int_cmp b z ≡ r → slice_cmp int_cmp a z ≡ Less
      by Less e = points_total.trans a b z l e
      by Equal e = subst (λ p. slice_cmp int_cmp a p ≡ Less) (same_point b z e) l
      by Greater e = absurd (g e)

  rises : (r s : Ordering) → ((s ≡ Greater → ⊥) → r ≡ Less) → ordering_index r ≤ ordering_index s
  rises r Greater h = highest r
    where
      highest : (r : Ordering) → ordering_index r ≤ 2
      highest Less = omega arith
      highest Equal = omega arith
      highest Greater = omega arith
  rises r Less h = let e : r ≡ Less = h (λ q. cc) in subst (λ p. ordering_index p ≤ 0) (sym e) (omega arith)
  rises r Equal h = let e : r ≡ Less = h (λ q. cc) in subst (λ p. ordering_index p ≤ 1) (sym e) (omega arith)

  -- what precedes what precedes a point, precedes it: so the answers rise along a table
  pub place-rises : (rows : Rows) → IsTable rows → IsNonDecreasingBy (λ row. ordering_index (place row)) rows
  place-rises [] t i j d h k = absurd (omega arith)
  place-rises (row ∷ rows) t zero zero d h k = omega arith
  place-rises (row ∷ rows) t zero (suc j) d h k = rises (place row) (place (slice_index_or rows j d)) (below_place row.0 (slice_index_or rows j d).0 (later-precedes row.0 rows j d t.0 (omega arith)))
  place-rises (row ∷ rows) t (suc i) zero d h k = absurd (omega arith)
  place-rises (row ∷ rows) t (suc i) (suc j) d h k = place-rises rows t.1 i j d (omega arith) (omega arith)

  -- a search that finds no row
  pub TableGives-not_found :
      (rows : Rows) (i : ℕ) → IsTable rows →
      IsPartitionPoint (λ row. place row ≡ Less) (λ row. place row ≡ Greater) rows i → (v : ℤ) → TableGives rows z v → ⊥
  TableGives-not_found rows i t parts =
      TableGives-none rows (λ k d h e. elim (cases_lt k i) [
        | inl l ↦ (let f = parts.0 k d (omega arith) l in cc)
        | inr g ↦ (let f = parts.1 k d g h in cc)
      ])

pub Precedes-chain : (a b c : List ℤ) → Precedes a b → Precedes b c → Precedes a c
Precedes-chain a b c h k = points_total.trans a b c h k

-- a table gives one value at a point
pub TableGives-unique : (rows : Rows) (z : List ℤ) (v w : ℤ) → TableGives rows z v → TableGives rows z w → v ≡ w
TableGives-unique [] z v w g h = absurd g
TableGives-unique (row ∷ rows) z v w g h =
    ⊎_elim
    (λ a. ⊎_elim (λ b. sym a.1 ∙ b.1) (λ b. absurd (b.0 a.0)) h)
    (λ a. ⊎_elim (λ b. absurd (a.0 b.0)) (λ b. TableGives-unique rows z v w a.1 b.1) h) g
