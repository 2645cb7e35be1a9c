-- A claim keeps a good state good.
use Rattle.std.proofs.Common.{◌≡◌, ◌⊎◌, inl, inr, ⊎_elim, ℕ, suc, ◌+◌, ◌<◌, ◌≤◌, Bool, true, false, nat_lt, if◌then◌else◌, List, [], length, set, slice_get, Some, refl, sym, ap, subst, ◌∙◌, arith, ltb-true, ltb-false}
use Rattle.std.specs.Prelude.{ℤ}
use Rattle.execution.specs.Events.{claimed}
use Rattle.execution.specs.Good.{exhausted_count, IsKept, IsGood}
use Rattle.execution.specs.Plans.{Plan, tiles_of, works_of}
use Rattle.execution.specs.Sound.{IsSound, AreFound}
use Rattle.execution.specs.States.{Worker, resting, exhausted, working, State, is_finished, Works}
use Rattle.execution.specs.declared.instance.Instance.{Instance}
use Rattle.execution.proofs.Lists.{true_or_false, within_or_past, set_same, kept_other, changed, exhausted-set}
use Rattle.execution.proofs.Quiet.{quiet_keeps, HasValues}
use Rattle.execution.proofs.Workers.{replaced, Carries, replaced_quiet}

module _ (means : Instance → ℤ → Type 0) (before : Instance → Instance → Type 0) (output : Instance → Type 0) (plan : Plan) (sound : IsSound means before output plan) where
  module _ (s : State) (k : ℕ) (rests : slice_get s.workers k ≡ Some resting) (good : IsGood means before output plan s) where
    abbrev kept : IsKept plan s
    kept = good.kept

    not_resting : (j tile number : ℕ) (values : List ℤ) → Works s j tile number values → j ≡ k → ⊥
    not_resting j tile number values h same = let here : slice_get s.workers j ≡ Some resting = ap (slice_get s.workers) same ∙ rests in cc

    counter_open : is_finished s s.counter ≡ false
    counter_open = ⊎_elim (λ is. absurd (let less = kept.claimed s.counter is in omega (arith, less))) (λ is. is) (true_or_false (is_finished s s.counter))

    -- there is a tile
    module _ (some : s.counter < length (tiles_of plan s.wave)) where
      abbrev new : Worker
      new = working s.counter 0 []

      abbrev t : State
      t = replaced s (suc s.counter) k new

      carries : Carries resting new
      carries = record {
        gains = λ tile number values is. inl (let same : number ≡ 0 = cc in same);
        keeps = λ tile number values is. absurd (cc);
      }

      one_of : (j tile number : ℕ) (values : List ℤ) → Works t j tile number values → ((j ≡ k) × (tile ≡ s.counter) × (number ≡ 0) × (values ≡ [])) ⊎ Works s j tile number values
      one_of j tile number values h =
          ⊎_elim (λ here. inl (here.0, is_tile here.1, is_number here.1, is_values here.1)) (λ other. inr other.1)
          (changed s.workers k j resting new (working tile number values) rests h)
        where
          is_tile : working tile number values ≡ new → tile ≡ s.counter
          is_tile e = cc

          is_number : working tile number values ≡ new → number ≡ 0
          is_number e = cc

          is_values : working tile number values ≡ new → values ≡ []
          is_values e = cc

      still : (j tile number : ℕ) (values : List ℤ) → Works s j tile number values → Works t j tile number values
      still j tile number values h = kept_other s.workers k j new (working tile number values) (not_resting j tile number values h) h

      taken_in : (j tile number : ℕ) (values : List ℤ) → tile ≡ s.counter → Works s j tile number values → ⊥
      taken_in j tile number values same h = let less = kept.taken j tile number values h in omega (arith, same, less)

      counts : suc s.counter ≤ length (tiles_of plan s.wave) + exhausted_count (set s.workers k new)
      counts = omega (arith, some)

      first : (tile number : ℕ) → tile ≡ s.counter → number ≡ 0 → number < length (works_of plan s.wave tile)
      first tile number same zero =
          let some_work : 0 < length (works_of plan s.wave s.counter) = sound.tiles s.wave s.counter some in
          subst (λ n. number < length (works_of plan s.wave n)) (sym same) (omega (arith, zero, some_work))

      tile_kept : IsKept plan t
      tile_kept = record {
        wave = kept.wave;
        cells = kept.cells;
        tiles = kept.tiles;
        within = λ j tile number values h. ⊎_elim (λ e. first tile number e.1 e.2) (λ g. kept.within j tile number values g) (one_of j tile number values h);
        taken = λ j tile number values h. ⊎_elim (λ e. omega (arith, e.1)) (λ g. let less = kept.taken j tile number values g in omega (arith, less)) (one_of j tile number values h);
        unfinished = λ j tile number values h. ⊎_elim (λ e. ap (is_finished s) e.1 ∙ counter_open) (λ g. kept.unfinished j tile number values g) (one_of j tile number values h);
        alone = λ i j tile number other values others h g.
            ⊎_elim
            (λ e. ⊎_elim (λ f. e.0 ∙ sym f.0) (λ f. absurd (taken_in j tile other others e.1 f)) (one_of j tile other others g))
            (λ e. ⊎_elim (λ f. absurd (taken_in i tile number values f.1 e)) (λ f. kept.alone i j tile number other values others e f) (one_of j tile other others g))
            (one_of i tile number values h);
        claimed = λ tile is. let less = kept.claimed tile is in omega (arith, less);
        owned = λ tile less within is. owner tile less within is;
        exhausted_late = λ j is. ⊎_elim (λ e. absurd (cc)) (λ e. let late = kept.exhausted_late j e.1 in omega (arith, late, some)) (changed s.workers k j resting new exhausted rests is);
        count = counts;
      }
        where
          owner : (tile : ℕ) → tile < suc s.counter → tile < length (tiles_of plan s.wave) → is_finished s tile ≡ false → (j : ℕ) × (number : ℕ) × (values : List ℤ) × Works t j tile number values
          owner tile less within is = by (less_or_same tile s.counter (omega (arith, less)))
            where
              less_or_same : (a b : ℕ) → a ≤ b → (a < b) ⊎ (a ≡ b)
              less_or_same a b l = ⊎_elim (λ h. inl h) (λ h. inr (omega (arith, h, l))) (within_or_past a b)

              by : (tile < s.counter) ⊎ (tile ≡ s.counter) → (j : ℕ) × (number : ℕ) × (values : List ℤ) × Works t j tile number values
              by (inl l) = let one = kept.owned tile l within is in (one.0, one.1, one.2, still one.0 tile one.1 one.2 one.3)
              by (inr same) = (k, 0, [], subst (λ n. Works t k n 0 []) (sym same) (set_same s.workers k new resting rests))

      has_values : HasValues means before output plan t
      has_values j tile number values h w sw =
          ⊎_elim (λ e. subst (AreFound means w.loads) (sym e.3) tt) (λ g. good.values j tile number values g w sw) (one_of j tile number values h)

      pub claim_tile : IsGood means before output plan (replaced s (suc s.counter) k (working s.counter 0 []))
      claim_tile = quiet_keeps means before output plan sound s t (replaced_quiet plan s (suc s.counter) k resting new rests carries) good tile_kept has_values

    -- there is none left
    module _ (none : length (tiles_of plan s.wave) ≤ s.counter) where
      abbrev end : State
      end = replaced s (suc s.counter) k exhausted

      nothing : Carries resting exhausted
      nothing = record { gains = λ tile number values is. absurd (cc); keeps = λ tile number values is. absurd (cc) }

      works_before : (j tile number : ℕ) (values : List ℤ) → Works end j tile number values → Works s j tile number values
      works_before j tile number values h = ⊎_elim (λ e. absurd (cc)) (λ e. e.1) (changed s.workers k j resting exhausted (working tile number values) rests h)

      end_kept : IsKept plan end
      end_kept = record {
        wave = kept.wave;
        cells = kept.cells;
        tiles = kept.tiles;
        within = λ j tile number values h. kept.within j tile number values (works_before j tile number values h);
        taken = λ j tile number values h. let less = kept.taken j tile number values (works_before j tile number values h) in omega (arith, less);
        unfinished = λ j tile number values h. kept.unfinished j tile number values (works_before j tile number values h);
        alone = λ i j tile number other values others h g.
            kept.alone i j tile number other values others (works_before i tile number values h) (works_before j tile other others g);
        claimed = λ tile is. let less = kept.claimed tile is in omega (arith, less);
        owned = λ tile less within is. let one = kept.owned tile (omega (arith, within, none)) within is in (
          one.0,
          one.1,
          one.2,
          kept_other s.workers k one.0 exhausted (working tile one.1 one.2) (not_resting one.0 tile one.1 one.2 one.3) one.3,
        );
        exhausted_late = λ j is. omega (arith, none);
        count = let count = kept.count in let more = exhausted-set s.workers k resting exhausted rests in omega (arith, count, more);
      }

      pub claim_none : IsGood means before output plan (replaced s (suc s.counter) k exhausted)
      claim_none = quiet_keeps means before output plan sound s end (replaced_quiet plan s (suc s.counter) k resting exhausted rests nothing) good end_kept
          (λ j tile number values h w sw. good.values j tile number values (works_before j tile number values h) w sw)

    pub claim_good : IsGood means before output plan (claimed plan k s)
    claim_good = by (nat_lt s.counter (length (tiles_of plan s.wave))) refl
      where
        by : (b : Bool) → nat_lt s.counter (length (tiles_of plan s.wave)) ≡ b → IsGood means before output plan (replaced s (suc s.counter) k (if b then working s.counter 0 [] else exhausted))
        by true is = claim_tile (ltb-true s.counter (length (tiles_of plan s.wave)) is)
        by false is = claim_none (ltb-false s.counter (length (tiles_of plan s.wave)) is)
