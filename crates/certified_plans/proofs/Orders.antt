-- What is before is an order: nothing is before itself, and what is before something earlier is before it too.
use Rattle.std.proofs.Common.{◌≡◌, ◌⊎◌, inl, inr, ⊎_elim, ℕ, List, [], ◌∷◌, ◌++◌, length, refl, sym, subst, ◌∙◌, arith}
use Rattle.std.specs.Prelude.{ℤ}
use Rattle.std.proofs.lemmas.Int.{ints}
use Rattle.az_ast.specs.Points.{Precedes}
use Rattle.az_ast.proofs.TableLemmas.{Precedes-differs, Precedes-chain}
use Rattle.execution.specs.Setting.{Setting, InstanceBefore}
use Rattle.execution.specs.declared.instance.Instance.{Instance}
use Rattle.plan_promise.specs.Promise.{IsCertifiedSetting}
use Rattle.target_map.specs.Before.{Before, in_outer_step, in_unit_tile, in_same_tile, NoneExceeds, SomeUnitLess}
use Rattle.target_map.specs.Kinds.{is_band, tile_sizes}
use Rattle.target_map.specs.Stamps.{Stamp}
use Rattle.target_map.specs.Times.{stamp_at}
use Rattle.target_map.proofs.Decisions.{before_or_not}
use Rattle.tile_waves.specs.Keys.{times_of, band_of}
use Rattle.tile_waves.specs.Waves.{IsInstance}
use Rattle.tile_waves.proofs.Earlier.{part_length, times_long}

none-chain : (xs ys zs : List ℤ) → length xs ≡ length ys → length ys ≡ length zs → NoneExceeds xs ys → NoneExceeds ys zs → NoneExceeds xs zs
none-chain [] ys zs a b h k = tt
none-chain (x ∷ xs) [] zs a b h k = absurd (omega (arith, a))
none-chain (x ∷ xs) (y ∷ ys) [] a b h k = absurd (omega (arith, b))
none-chain (x ∷ xs) (y ∷ ys) (z ∷ zs) a b h k =
    let first = h.0 in
    let second = k.0 in
    (omega (arith, ints, first, second), none-chain xs ys zs (omega (arith, a)) (omega (arith, b)) h.1 k.1)

less-none : (sizes : List ℕ) (xs ys zs : List ℤ) → length xs ≡ length ys → length ys ≡ length zs → SomeUnitLess sizes xs ys → NoneExceeds ys zs → SomeUnitLess sizes xs zs
less-none [] xs ys zs a b h k = absurd h
less-none (size ∷ sizes) [] ys zs a b h k = absurd h
less-none (size ∷ sizes) (x ∷ xs) [] zs a b h k = absurd h
less-none (size ∷ sizes) (x ∷ xs) (y ∷ ys) [] a b h k = absurd (omega (arith, b))
less-none (size ∷ sizes) (x ∷ xs) (y ∷ ys) (z ∷ zs) a b h k =
    ⊎_elim (λ here. let first = here.1 in let second = k.0 in inl (here.0, omega (arith, ints, first, second)))
    (λ later. inr (less-none sizes xs ys zs (omega (arith, a)) (omega (arith, b)) later k.1)) h

none-less : (sizes : List ℕ) (xs ys zs : List ℤ) → length xs ≡ length ys → length ys ≡ length zs → NoneExceeds xs ys → SomeUnitLess sizes ys zs → SomeUnitLess sizes xs zs
none-less [] xs ys zs a b h k = absurd k
none-less (size ∷ sizes) xs [] zs a b h k = absurd k
none-less (size ∷ sizes) [] (y ∷ ys) zs a b h k = absurd (omega (arith, a))
none-less (size ∷ sizes) (x ∷ xs) (y ∷ ys) [] a b h k = absurd k
none-less (size ∷ sizes) (x ∷ xs) (y ∷ ys) (z ∷ zs) a b h k =
    ⊎_elim (λ here. let first = h.0 in let second = here.1 in inl (here.0, omega (arith, ints, first, second)))
    (λ later. inr (none-less sizes xs ys zs (omega (arith, a)) (omega (arith, b)) h.1 later)) k

never-less : (sizes : List ℕ) (xs : List ℤ) → SomeUnitLess sizes xs xs → ⊥
never-less [] xs h = h
never-less (size ∷ sizes) [] h = h
never-less (size ∷ sizes) (x ∷ xs) h = ⊎_elim (λ here. let less = here.1 in omega (arith, ints, less)) (λ later. never-less sizes xs later) h

module _ (sizes : List ℕ) where
  never_before_itself : (u : Stamp ℤ) → Before sizes u u → ⊥
  never_before_itself u (in_outer_step h) = Precedes-differs u.outer u.outer h refl
  never_before_itself u (in_unit_tile outer none some) = never-less sizes u.band some
  never_before_itself u (in_same_tile outer none processor h) = Precedes-differs u.tile u.tile h refl

  module _ (u v w : Stamp ℤ) (a : length u.band ≡ length v.band) (b : length v.band ≡ length w.band) where
    chain : Before sizes u v → Before sizes v w → Before sizes u w
    chain (in_outer_step h) (in_outer_step k) = in_outer_step (Precedes-chain u.outer v.outer w.outer h k)
    chain (in_outer_step h) (in_unit_tile outer none some) = in_outer_step (subst (λ o. Precedes u.outer o) outer h)
    chain (in_outer_step h) (in_same_tile outer none processor k) = in_outer_step (subst (λ o. Precedes u.outer o) outer h)
    chain (in_unit_tile outer none some) (in_outer_step k) = in_outer_step (subst (λ o. Precedes o w.outer) (sym outer) k)
    chain (in_unit_tile outer none some) (in_unit_tile outer_too none_too some_too) =
        in_unit_tile (outer ∙ outer_too) (none-chain u.band v.band w.band a b none none_too) (less-none sizes u.band v.band w.band a b some none_too)
    chain (in_unit_tile outer none some) (in_same_tile outer_too none_too processor k) =
        in_unit_tile (outer ∙ outer_too) (none-chain u.band v.band w.band a b none none_too) (less-none sizes u.band v.band w.band a b some none_too)
    chain (in_same_tile outer none processor h) (in_outer_step k) = in_outer_step (subst (λ o. Precedes o w.outer) (sym outer) k)
    chain (in_same_tile outer none processor h) (in_unit_tile outer_too none_too some) =
        in_unit_tile (outer ∙ outer_too) (none-chain u.band v.band w.band a b none none_too) (none-less sizes u.band v.band w.band a b none some)
    chain (in_same_tile outer none processor h) (in_same_tile outer_too none_too processor_too k) =
        in_same_tile (outer ∙ outer_too) (none-chain u.band v.band w.band a b none none_too) (processor ∙ processor_too) (Precedes-chain u.tile v.tile w.tile h k)

module _ (g : Setting) (is : IsCertifiedSetting g) where
  pub before_itself : (u : Instance) → InstanceBefore g u u → ⊥
  before_itself u h = never_before_itself (tile_sizes g.mapping.kinds) (stamp_at g.mapping u.variable (g.params ++ u.point)) h

  pub decided : (u v : Instance) → InstanceBefore g u v ⊎ (InstanceBefore g u v → ⊥)
  decided u v = before_or_not (tile_sizes g.mapping.kinds) (stamp_at g.mapping u.variable (g.params ++ u.point)) (stamp_at g.mapping v.variable (g.params ++ v.point))

  band_long : (u v : Instance) → IsInstance g.program g.params u → IsInstance g.program g.params v → length (band_of g.mapping g.params u) ≡ length (band_of g.mapping g.params v)
  band_long u v one two =
      part_length is_band g.mapping.kinds (times_of g.mapping g.params u) (times_of g.mapping g.params v)
      (times_long g.program g.mapping g.params is.mapping is.map.complete u one ∙ sym (times_long g.program g.mapping g.params is.mapping is.map.complete v two))

  pub before_chain : (u v w : Instance) → IsInstance g.program g.params u → IsInstance g.program g.params v → IsInstance g.program g.params w → InstanceBefore g u v → InstanceBefore g v w → InstanceBefore g u w
  before_chain u v w one two three h k =
      chain (tile_sizes g.mapping.kinds) (stamp_at g.mapping u.variable (g.params ++ u.point)) (stamp_at g.mapping v.variable (g.params ++ v.point)) (stamp_at g.mapping w.variable (g.params ++ w.point))
      (band_long u v one two) (band_long v w two three) h k
