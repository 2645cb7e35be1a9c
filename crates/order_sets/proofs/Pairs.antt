-- What the rows of pairs say of the values at a point: each of them decides, or is refuted.
use Rattle.std.proofs.Common.{◌≡◌, ◌⊎◌, inl, inr, ℕ, arith, List, [], ◌∷◌, ◌++◌, length, Bool, true, false, refl, ap, ap₂}
use Rattle.std.specs.Prelude.{ℤ, pos, ◌≤ℤ◌, ◌<ℤ◌, ◌==◌, if◌then◌else◌}
use Rattle.std.specs.declared.cmp.Ordering.TheVariants.{Less, Equal}
use Rattle.std.proofs.lemmas.Bool.{eqb-true}
use Rattle.std.proofs.lemmas.Int.{ints}
use Rattle.az_lin.specs.Affine.{Affine, value_at}
use Rattle.az_lin.proofs.Difference.{value_at-apart_by}
use Rattle.az_ast.specs.Points.{Precedes}
use Rattle.formula_refute.specs.Claims.{Claim, IsTrueAt}
use Rattle.target_map.specs.Before.{NoneExceeds, SomeUnitLess}
use Rattle.target_map.proofs.Points.{compared, at_most_or, precedes_first, precedes_next, precedes_cases}
use Rattle.order_sets.specs.NotBefore.{at_least, greater, both_ways, each_pair, equal, less_after, less, exceeds, is_within, apart, unit_at_least, values}
use Rattle.order_sets.proofs.Joined.{Each, Some, each_join, each_first, each_last}

module _ (z : List ℤ) where
  abbrev val : Affine → ℤ
  val row = value_at row z

  -- one pair
  pub least_to : (u v : Affine) → IsTrueAt z (at_least u v) → val v ≤ℤ val u
  least_to u v h = omega (arith, ints, value_at-apart_by (pos 0) u v z, h)

  pub least_from : (u v : Affine) → val v ≤ℤ val u → IsTrueAt z (at_least u v)
  least_from u v h = omega (arith, ints, value_at-apart_by (pos 0) u v z, h)

  greater_to : (u v : Affine) → IsTrueAt z (greater u v) → val v <ℤ val u
  greater_to u v h = omega (arith, ints, value_at-apart_by (pos 1) u v z, h)

  greater_from : (u v : Affine) → val v <ℤ val u → IsTrueAt z (greater u v)
  greater_from u v h = omega (arith, ints, value_at-apart_by (pos 1) u v z, h)

  pub same_to : (u v : Affine) → Each z (both_ways u v) → val u ≡ val v
  same_to u v h = let a = least_to u v h.0 in let b = least_to v u h.1.0 in omega (arith, ints, a, b)

  pub same_from : (u v : Affine) → val u ≡ val v → Each z (both_ways u v)
  same_from u v is = (least_from u v (omega (arith, ints, is)), (least_from v u (omega (arith, ints, is)), tt))

  -- equal lists
  pub equal_to : (us vs : List Affine) → length us ≡ length vs → IsTrueAt z (equal us vs) → values z us ≡ values z vs
  equal_to [] [] long h = refl
  equal_to [] (v ∷ vs) long h = absurd (omega arith)
  equal_to (u ∷ us) [] long h = absurd (omega arith)
  equal_to (u ∷ us) (v ∷ vs) long h =
      ap₂ (λ (x : ℤ) (xs : List ℤ). x ∷ xs) (same_to u v (each_first z (both_ways u v) (each_pair both_ways us vs) h))
      (equal_to us vs (omega arith) (each_last z (both_ways u v) (each_pair both_ways us vs) h))

  pub equal_from : (us vs : List Affine) → values z us ≡ values z vs → IsTrueAt z (equal us vs)
  equal_from [] vs is = tt
  equal_from (u ∷ us) [] is = tt
  equal_from (u ∷ us) (v ∷ vs) is =
      let both : (val u ∷ values z us) ≡ (val v ∷ values z vs) = is in
      let first : val u ≡ val v = cc in
      let rest : values z us ≡ values z vs = cc in
      each_join z (both_ways u v) (each_pair both_ways us vs) (same_from u v first) (equal_from us vs rest)

  -- lexicographically less
  less_after_to : (before : List Claim) (us vs : List Affine) → length us ≡ length vs → Some z (less_after before us vs)
      → Each z before × Precedes (values z us) (values z vs)
  less_after_to before [] vs long h = absurd h
  less_after_to before (u ∷ us) [] long h = absurd (omega arith)
  less_after_to before (u ∷ us) (v ∷ vs) long h = elim h as (λ _. Each z before × Precedes (values z (u ∷ us)) (values z (v ∷ vs))) [
    | inl here ↦ (
      each_first z before (greater v u ∷ []) here,
      precedes_first (val u) (val v) (values z us) (values z vs) (greater_to v u (each_last z before (greater v u ∷ []) here).0),
    )
    | inr there ↦ (
        let found = less_after_to (before ++ both_ways u v) us vs (omega arith) there in (
          each_first z before (both_ways u v) found.0,
          precedes_next (val u) (val v) (values z us) (values z vs) (same_to u v (each_last z before (both_ways u v) found.0)) found.1,
        )
        )
  ]

  less_after_from : (before : List Claim) (us vs : List Affine) → length us ≡ length vs → Each z before → Precedes (values z us) (values z vs) → Some z (less_after before us vs)
  less_after_from before [] [] long so_far h = let none : Equal ≡ Less = h in cc
  less_after_from before [] (v ∷ vs) long so_far h = absurd (omega arith)
  less_after_from before (u ∷ us) [] long so_far h = absurd (omega arith)
  less_after_from before (u ∷ us) (v ∷ vs) long so_far h =
      elim (precedes_cases (val u) (val v) (values z us) (values z vs) h) as (λ _. Some z (less_after before (u ∷ us) (v ∷ vs))) [
        | inl first ↦ inl (each_join z before (greater v u ∷ []) so_far (greater_from v u first, tt))
        | inr rest ↦ inr (less_after_from (before ++ both_ways u v) us vs (omega arith) (each_join z before (both_ways u v) so_far (same_from u v rest.0)) rest.1)
      ]

  pub less_to : (us vs : List Affine) → length us ≡ length vs → IsTrueAt z (less us vs) → Precedes (values z us) (values z vs)
  less_to us vs long h = (less_after_to [] us vs long h).1

  pub less_from : (us vs : List Affine) → length us ≡ length vs → Precedes (values z us) (values z vs) → IsTrueAt z (less us vs)
  less_from us vs long h = less_after_from [] us vs long tt h

  -- no coordinate exceeds, or some does
  pub exceeds_or : (us vs : List Affine) → NoneExceeds (values z us) (values z vs) ⊎ Some z (each_pair exceeds us vs)
  exceeds_or [] vs = inl tt
  exceeds_or (u ∷ us) [] = inl tt
  exceeds_or (u ∷ us) (v ∷ vs) =
      elim (at_most_or (val u) (val v)) as (λ _. NoneExceeds (values z (u ∷ us)) (values z (v ∷ vs)) ⊎ Some z (each_pair exceeds (u ∷ us) (v ∷ vs))) [
        | inl here ↦ elim (exceeds_or us vs) as (λ _. NoneExceeds (values z (u ∷ us)) (values z (v ∷ vs)) ⊎ Some z (each_pair exceeds (u ∷ us) (v ∷ vs))) [
          | inl rest ↦ inl (here, rest)
          | inr some ↦ inr (inr some)
        ]
        | inr more ↦ inr (inl (greater_from u v more))
      ]

  pub exceeds_to : (us vs : List Affine) → Some z (each_pair exceeds us vs) → NoneExceeds (values z us) (values z vs) → ⊥
  exceeds_to [] vs h none = h
  exceeds_to (u ∷ us) [] h none = h
  exceeds_to (u ∷ us) (v ∷ vs) h none = elim h as (λ _. ⊥) [
    | inl here ↦ (let a = greater_to u v here in let b = none.0 in omega (arith, ints, a, b))
    | inr there ↦ exceeds_to us vs there none.1
  ]

  pub within_from : (us vs : List Affine) → NoneExceeds (values z us) (values z vs) → Each z (each_pair is_within us vs)
  within_from [] vs none = tt
  within_from (u ∷ us) [] none = tt
  within_from (u ∷ us) (v ∷ vs) none = (least_from v u none.0, within_from us vs none.1)

  -- less in a unit coordinate, or in none
  pub unit_or : (sizes : List ℕ) (us vs : List Affine) → SomeUnitLess sizes (values z us) (values z vs) ⊎ Each z (unit_at_least sizes us vs)
  unit_or [] us vs = inr tt
  unit_or (size ∷ sizes) [] vs = inr tt
  unit_or (size ∷ sizes) (u ∷ us) [] = inr tt
  unit_or (size ∷ sizes) (u ∷ us) (v ∷ vs) = by (size == 1) refl (unit_or sizes us vs)
    where
      by : (b : Bool) → (size == 1) ≡ b → SomeUnitLess sizes (values z us) (values z vs) ⊎ Each z (unit_at_least sizes us vs)
          → SomeUnitLess (size ∷ sizes) (values z (u ∷ us)) (values z (v ∷ vs)) ⊎ Each z (if b then at_least u v ∷ unit_at_least sizes us vs else unit_at_least sizes us vs)
      by b is (inl less) = inl (inr less)
      by true is (inr rest) = elim (at_most_or (val v) (val u)) as (λ _. SomeUnitLess (size ∷ sizes) (values z (u ∷ us)) (values z (v ∷ vs)) ⊎ Each z (if true then at_least u v ∷ unit_at_least sizes us vs else unit_at_least sizes us vs)) [
        | inl here ↦ inr (least_from u v here, rest)
        | inr ahead ↦ inl (inl (eqb-true size 1 is, ahead))
      ]
      by false is (inr rest) = inr rest

  pub unit_to : (sizes : List ℕ) (us vs : List Affine) → Each z (unit_at_least sizes us vs) → SomeUnitLess sizes (values z us) (values z vs) → ⊥
  unit_to [] us vs h less = less
  unit_to (size ∷ sizes) [] vs h less = less
  unit_to (size ∷ sizes) (u ∷ us) [] h less = less
  unit_to (size ∷ sizes) (u ∷ us) (v ∷ vs) h less = by (size == 1) refl h less (λ rest later. unit_to sizes us vs rest later)
    where
      by : (b : Bool) → (size == 1) ≡ b → Each z (if b then at_least u v ∷ unit_at_least sizes us vs else unit_at_least sizes us vs)
          → SomeUnitLess (size ∷ sizes) (values z (u ∷ us)) (values z (v ∷ vs))
          → (Each z (unit_at_least sizes us vs) → SomeUnitLess sizes (values z us) (values z vs) → ⊥) → ⊥
      by true is h (inl less) rest = let a = least_to u v h.0 in let b = less.1 in omega (arith, ints, a, b)
      by true is h (inr less) rest = rest h.1 less
      by false is h (inl less) rest = let same : (size == 1) ≡ true = ap (λ n. n == 1) less.0 in cc
      by false is h (inr less) rest = rest h less

  -- equal, or apart somewhere
  pub apart_or : (us vs : List Affine) → length us ≡ length vs → (values z us ≡ values z vs) ⊎ Some z (each_pair apart us vs)
  apart_or [] [] long = inl refl
  apart_or [] (v ∷ vs) long = absurd (omega arith)
  apart_or (u ∷ us) [] long = absurd (omega arith)
  apart_or (u ∷ us) (v ∷ vs) long =
      elim (compared (val u) (val v)) as (λ _. (values z (u ∷ us) ≡ values z (v ∷ vs)) ⊎ Some z (each_pair apart (u ∷ us) (v ∷ vs))) [
        | inl same ↦ elim (apart_or us vs (omega arith)) as (λ _. (values z (u ∷ us) ≡ values z (v ∷ vs)) ⊎ Some z (each_pair apart (u ∷ us) (v ∷ vs))) [
          | inl rest ↦ inl (ap₂ (λ (x : ℤ) (xs : List ℤ). x ∷ xs) same rest)
          | inr some ↦ inr (inr (inr some))
        ]
        | inr other ↦ elim other as (λ _. (values z (u ∷ us) ≡ values z (v ∷ vs)) ⊎ Some z (each_pair apart (u ∷ us) (v ∷ vs))) [
          | inl less ↦ inr (inl (greater_from v u less))
          | inr more ↦ inr (inr (inl (greater_from u v more)))
        ]
      ]

  pub apart_to : (us vs : List Affine) → Some z (each_pair apart us vs) → values z us ≡ values z vs → ⊥
  apart_to [] vs h same = h
  apart_to (u ∷ us) [] h same = h
  apart_to (u ∷ us) (v ∷ vs) h same =
      let both : (val u ∷ values z us) ≡ (val v ∷ values z vs) = same in
      let first : val u ≡ val v = cc in
      let rest : values z us ≡ values z vs = cc in
      elim h as (λ _. ⊥) [
        | inl less ↦ (let a = greater_to v u less in omega (arith, ints, a, first))
        | inr other ↦ elim other as (λ _. ⊥) [
          | inl more ↦ (let a = greater_to u v more in omega (arith, ints, a, first))
          | inr there ↦ apart_to us vs there rest
        ]
      ]
