-- A search by halving in a list of points in order.
use Rattle.std.proofs.Common.{◌≡◌, ℕ, ◌<◌, List, [], ◌∷◌, length, true, ◌∙◌, Some, refl, sym, ap, subst, arith, inl, inr}
use Rattle.std.specs.Prelude.{ℤ, pos, slice_index_or, slice_get, map, Contains}
use Rattle.std.specs.List.Sorted.{IsNonDecreasingBy, IsPartitionPoint}
use Rattle.std.specs.declared.cmp.Ordering.TheVariants.{Less, Equal, Greater}
use Rattle.std.specs.declared.cmp.Ordering.{Ordering}
use Rattle.std.specs.Ordering.{int_cmp, ordering_index, is_eq}
use Rattle.std.specs.Cmp.Lexicographic.{slice_cmp}
use Rattle.std.proofs.Math.ListN.{get_or-map, length-map}
use Rattle.std.proofs.lemmas.Bool.{cases_lt}
use Rattle.std.proofs.lemmas.Option.{slice_get_read, slice_get_within}
use Rattle.az_ast.specs.Points.{IsIncreasing}
use Rattle.az_ast.specs.Tables.{IsTable}
use Rattle.az_ast.proofs.TableLemmas.{place-rises, equal_points, same_point}

abbrev row : List ℤ → List ℤ × ℤ
row point = (point, pos 0)

firsts : (points : List (List ℤ)) → map (λ (r : List ℤ × ℤ). r.0) (map row points) ≡ points
firsts [] = refl
firsts (point ∷ points) = ap (λ rest. point ∷ rest) (firsts points)

module _ (z : List ℤ) (points : List (List ℤ)) where
  pub points-rise : IsIncreasing points → IsNonDecreasingBy (λ point. ordering_index (slice_cmp int_cmp point z)) points
  points-rise increasing i j d h k =
      let table : IsTable (map row points) = subst IsIncreasing (sym (firsts points)) increasing in
      let rises = place-rises z (map row points) table i j (row d) h (subst (λ n. j < n) (sym (length-map points row)) k) in
      rw (get_or-map row points i d, get_or-map row points j d) at rises

  pub listed-found : (i : ℕ) → IsPartitionPoint (λ point. slice_cmp int_cmp point z ≡ Less) (λ point. slice_cmp int_cmp point z ≡ Greater) points i → Contains points z → ⊥
  listed-found i parts (j, h, e) =
      let same = equal_points (slice_index_or points j z) z e in
      elim (cases_lt j i) [
        | inl l ↦ (let f = parts.0 j z (omega arith) l in cc)
        | inr g ↦ (let f = parts.1 j z g h in cc)
      ]

  pub found-get : (place : ℕ) → place < length points → slice_cmp int_cmp (slice_index_or points place z) z ≡ Equal → slice_get points place ≡ Some z
  found-get place h e = slice_get_read points (length points) place z refl h (sym (same_point (slice_index_or points place z) z e))

equal_so : (o : Ordering) → is_eq o ≡ true → o ≡ Equal
equal_so Less e = cc e
equal_so Equal e = refl
equal_so Greater e = cc e

pub stands : (points : List (List ℤ)) (place : ℕ) (other point : List ℤ) → slice_get points place ≡ Some other → is_eq (slice_cmp int_cmp other point) ≡ true
    → (place < length points) × (slice_get points place ≡ Some point)
stands points place other point at equal =
    (slice_get_within points place other at, at ∙ ap (λ (p : List ℤ). Some p) (same_point other point (equal_so (slice_cmp int_cmp other point) equal)))
