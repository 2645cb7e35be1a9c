-- The formula is true at a point exactly where the one instance isn't before the other.
use Rattle.std.proofs.Common.{◌≡◌, ◌⊎◌, inl, inr, ◌↔◌, ℕ, ℤ, List, [], ◌∷◌, ◌++◌, refl, sym}
use Rattle.az_lin.specs.Affine.{Affine}
use Rattle.az_ast.specs.Points.{Precedes}
use Rattle.az_ast.proofs.TableLemmas.{Precedes-differs, Precedes-chain}
use Rattle.formula_refute.specs.Claims.{Claim, all_of, any_of, claims, IsTrueAt}
use Rattle.target_map.specs.Before.{Before, in_outer_step, in_unit_tile, in_same_tile, NoneExceeds, SomeUnitLess}
use Rattle.target_map.specs.Stamps.{Stamp}
use Rattle.target_map.proofs.Points.{order_of}
use Rattle.order_sets.specs.NotBefore.{each_pair, equal, less, exceeds, is_within, apart, unit_at_least, beside, not_ahead, in_one_step, not_before, stamp_values}
use Rattle.order_sets.specs.Alike.{AreAlike}
use Rattle.order_sets.proofs.Joined.{Some, each_join, each_first, each_last, some_first, some_last, some_one}
use Rattle.order_sets.proofs.Pairs.{equal_to, equal_from, less_to, less_from, exceeds_or, exceeds_to, within_from, unit_or, unit_to, apart_or, apart_to}

same_not_before : (xs ys : List ℤ) → xs ≡ ys → Precedes xs ys → ⊥
same_not_before xs ys same first = Precedes-differs xs ys first same

not_both : (xs ys : List ℤ) → Precedes xs ys → Precedes ys xs → ⊥
not_both xs ys first second = Precedes-differs xs xs (Precedes-chain xs ys xs first second) refl

module _ (z : List ℤ) where
  module _ (sizes : List ℕ) (u v : Stamp Affine) (alike : AreAlike u v) where
    abbrev U : Stamp ℤ
    U = stamp_values z u

    abbrev V : Stamp ℤ
    V = stamp_values z v

    -- at one outer step, in one tile: on another processor, or not earlier
    beside_to : U.processor ≡ V.processor → Precedes U.tile V.tile → Some z (beside u v) → ⊥
    beside_to same earlier h =
        elim (some_one z (each_pair apart u.processor v.processor) (less v.tile u.tile ∷ equal u.tile v.tile ∷ []) h) as (λ _. ⊥) [
          | inl other ↦ apart_to z u.processor v.processor other same
          | inr rest ↦ elim rest as (λ _. ⊥) [
            | inl later ↦ not_both U.tile V.tile earlier (less_to z v.tile u.tile (sym alike.tile) later)
            | inr last ↦ elim last as (λ _. ⊥) [
              | inl at_once ↦ same_not_before U.tile V.tile (equal_to z u.tile v.tile alike.tile at_once) earlier
              | inr none ↦ none
            ]
          ]
        ]

    abbrev Beside : Type 0
    Beside = ((U.processor ≡ V.processor) × Precedes U.tile V.tile) ⊎ Some z (beside u v)

    beside_or : Beside
    beside_or =
        let last : List Claim = less v.tile u.tile ∷ equal u.tile v.tile ∷ [] in
        let first : List Claim = each_pair apart u.processor v.processor in
        elim (apart_or z u.processor v.processor alike.processor) as (λ _. Beside) [
          | inl same ↦ elim (order_of U.tile V.tile) as (λ _. Beside) [
            | inl at_once ↦ inr (some_last z first last (inr (inl (equal_from z u.tile v.tile at_once))))
            | inr other ↦ elim other as (λ _. Beside) [
              | inl earlier ↦ inl (same, earlier)
              | inr later ↦ inr (some_last z first last (inl (less_from z v.tile u.tile (sym alike.tile) later)))
            ]
          ]
          | inr other ↦ inr (some_first z first last other)
        ]

    -- at one outer step
    abbrev InOneStep : Type 0
    InOneStep = NoneExceeds U.band V.band × (SomeUnitLess sizes U.band V.band ⊎ ((U.processor ≡ V.processor) × Precedes U.tile V.tile))

    step_to : Some z (in_one_step sizes u v) → InOneStep → ⊥
    step_to h step =
        let within : List Claim = each_pair is_within u.band v.band in
        let units : List Claim = unit_at_least sizes u.band v.band in
        let last : List Claim = any_of (claims (beside u v)) ∷ [] in
        elim (some_one z (each_pair exceeds u.band v.band) (all_of (claims (not_ahead sizes u v)) ∷ []) h) as (λ _. ⊥) [
          | inl back ↦ exceeds_to z u.band v.band back step.0
          | inr rest ↦ elim rest as (λ _. ⊥) [
            | inl all ↦ (
                let behind = each_last z within (units ++ last) all in
                elim step.1 as (λ _. ⊥) [
                  | inl ahead ↦ unit_to z sizes u.band v.band (each_first z units last behind) ahead
                  | inr earlier ↦ beside_to earlier.0 earlier.1 (each_last z units last behind).0
                ]
                )
            | inr none ↦ none
          ]
        ]

    step_or : InOneStep ⊎ Some z (in_one_step sizes u v)
    step_or =
        let within : List Claim = each_pair is_within u.band v.band in
        let units : List Claim = unit_at_least sizes u.band v.band in
        let last : List Claim = any_of (claims (beside u v)) ∷ [] in
        let back : List Claim = each_pair exceeds u.band v.band in
        let after : List Claim = all_of (claims (not_ahead sizes u v)) ∷ [] in
        elim (exceeds_or z u.band v.band) as (λ _. InOneStep ⊎ Some z (in_one_step sizes u v)) [
          | inl none ↦ elim (unit_or z sizes u.band v.band) as (λ _. InOneStep ⊎ Some z (in_one_step sizes u v)) [
            | inl ahead ↦ inl (none, inl ahead)
            | inr behind ↦ elim beside_or as (λ _. InOneStep ⊎ Some z (in_one_step sizes u v)) [
              | inl earlier ↦ inl (none, inr earlier)
              | inr aside ↦ inr (some_last z back after (inl (each_join z within (units ++ last) (within_from z u.band v.band none) (each_join z units last behind (aside, tt)))))
            ]
          ]
          | inr some ↦ inr (some_first z back after some)
        ]

    before_to : U.outer ≡ V.outer → Before sizes U V → InOneStep
    before_to same (in_outer_step first) = absurd (same_not_before U.outer V.outer same first)
    before_to same (in_unit_tile outer none ahead) = (none, inl ahead)
    before_to same (in_same_tile outer none processor first) = (none, inr (processor, first))

    before_from : U.outer ≡ V.outer → InOneStep → Before sizes U V
    before_from same step = elim step.1 as (λ _. Before sizes U V) [
      | inl ahead ↦ in_unit_tile same step.0 ahead
      | inr earlier ↦ in_same_tile same step.0 earlier.0 earlier.1
    ]

    outer_is : Before sizes U V → Precedes U.outer V.outer ⊎ (U.outer ≡ V.outer)
    outer_is (in_outer_step first) = inl first
    outer_is (in_unit_tile outer none ahead) = inr outer
    outer_is (in_same_tile outer none processor first) = inr outer

    pub not_before_to : IsTrueAt z (not_before sizes u v) → Before sizes U V → ⊥
    not_before_to h before = elim h as (λ _. ⊥) [
      | inl later ↦ (
          let after = less_to z v.outer u.outer (sym alike.outer) later in
          elim (outer_is before) as (λ _. ⊥) [
            | inl earlier ↦ not_both U.outer V.outer earlier after
            | inr same ↦ same_not_before V.outer U.outer (sym same) after
          ]
          )
      | inr rest ↦ elim rest as (λ _. ⊥) [
        | inl at_once ↦ (
            let same = equal_to z u.outer v.outer alike.outer at_once.0 in
            step_to at_once.1.0 (before_to same before)
            )
        | inr none ↦ none
      ]
    ]

    pub before_or : Before sizes U V ⊎ IsTrueAt z (not_before sizes u v)
    before_or = elim (order_of U.outer V.outer) as (λ _. Before sizes U V ⊎ IsTrueAt z (not_before sizes u v)) [
      | inl same ↦ elim step_or as (λ _. Before sizes U V ⊎ IsTrueAt z (not_before sizes u v)) [
        | inl step ↦ inl (before_from same step)
        | inr some ↦ inr (inr (inl (equal_from z u.outer v.outer same, (some, tt))))
      ]
      | inr other ↦ elim other as (λ _. Before sizes U V ⊎ IsTrueAt z (not_before sizes u v)) [
        | inl earlier ↦ inl (in_outer_step earlier)
        | inr later ↦ inr (inl (less_from z v.outer u.outer (sym alike.outer) later))
      ]
    ]

    pub not_before_true : IsTrueAt z (not_before sizes u v) ↔ (Before sizes U V → ⊥)
    not_before_true = (
      not_before_to,
      λ none. elim before_or as (λ _. IsTrueAt z (not_before sizes u v)) [ inl before ↦ absurd (none before) | inr true ↦ true ],
    )
