-- What is before a stored instance is stored, whatever the state.
use Rattle.std.proofs.Common.{◌≡◌, ⊎_elim, ℕ, ◌<◌, true, List, length, sym, subst, ◌∙◌, arith}
use Rattle.std.specs.Prelude.{ℤ}
use Rattle.execution.specs.Good.{IsKept}
use Rattle.execution.specs.Plans.{Work, Plan, tiles_of, place, Stands, IsEarlier}
use Rattle.execution.specs.Sound.{IsSound}
use Rattle.execution.specs.States.{State, is_finished, Works, IsStored, in_earlier_wave, in_finished_tile, behind_worker}
use Rattle.execution.specs.declared.instance.Instance.{Instance}
use Rattle.execution.specs.declared.place.Place.{Place}
use Rattle.execution.proofs.Lists.{listed_within}

pub same_place : (p q : Place) → p.wave ≡ q.wave → p.tile ≡ q.tile → p.number ≡ q.number → p ≡ q
same_place p q wave tile number = λ i. record { wave = wave i; tile = tile i; number = number i }

pub stands_in_tile : (plan : Plan) (p : Place) (w : Work) → Stands plan p w → p.tile < length (tiles_of plan p.wave)
stands_in_tile plan p w h = listed_within (tiles_of plan p.wave) p.tile p.number w h

module _ (s : State) where
  pub earlier_reached :
      (k tile number : ℕ) (values : List ℤ) → Works s k tile number values → (q : Place) → IsEarlier q (place s.wave tile number) → IsStored s q
  earlier_reached k tile number values h q e =
      ⊎_elim (λ l. in_earlier_wave l) (λ r. behind_worker r.0 k number values (subst (λ t. Works s k t number values) (sym r.1) h) r.2) e

  pub earlier_passed : (p q : Place) → IsStored s p → IsEarlier q p → IsStored s q
  earlier_passed p q (in_earlier_wave l) e = in_earlier_wave (⊎_elim (λ h. omega (arith, h, l)) (λ h. omega (arith, h.0, l)) e)
  earlier_passed p q (in_finished_tile w f) e =
      ⊎_elim (λ h. in_earlier_wave (omega (arith, h, w))) (λ h. in_finished_tile (h.0 ∙ w) (subst (λ t. is_finished s t ≡ true) (sym h.1) f)) e
  earlier_passed p q (behind_worker w k number values h l) e =
      ⊎_elim (λ g. in_earlier_wave (omega (arith, g, w)))
      (λ g. behind_worker (g.0 ∙ w) k number values (subst (λ t. Works s k t number values) (sym g.1) h) (omega (arith, g.2, l))) e

  -- an instance at which a worker works isn't stored
  pub not_stored : (plan : Plan) → IsKept plan s → (k tile number : ℕ) (values : List ℤ) → Works s k tile number values → IsStored s (place s.wave tile number) → ⊥
  not_stored plan kept k tile number values h (in_earlier_wave l) = omega (arith, l)
  not_stored plan kept k tile number values h (in_finished_tile w f) = let no = kept.unfinished k tile number values h in cc
  not_stored plan kept k tile number values h (behind_worker w j other others g l) =
      let same : j ≡ k = kept.alone j k tile other number others values g h in
      let number_same : other ≡ number = one j same g in
      omega (arith, number_same, l)
    where
      one : (j : ℕ) → j ≡ k → Works s j tile other others → other ≡ number
      one j same g = cc

module _ (means : Instance → ℤ → Type 0) (before : Instance → Instance → Type 0) (output : Instance → Type 0) (plan : Plan) (sound : IsSound means before output plan) (s : State) where
  pub passed : (p : Place) (w : Work) → Stands plan p w → IsStored s p → (q : Place) (v : Work) → Stands plan q v → before v.instance w.instance → IsStored s q
  passed p w sp h q v sq b = earlier_passed s p q h (sound.order q p v w sq sp b)

  pub reached :
      (k tile number : ℕ) (values : List ℤ) → Works s k tile number values → (w : Work) → Stands plan (place s.wave tile number) w →
      (q : Place) (v : Work) → Stands plan q v → before v.instance w.instance → IsStored s q
  reached k tile number values h w sp q v sq b = earlier_reached s k tile number values h q (sound.order q (place s.wave tile number) v w sq sp b)
