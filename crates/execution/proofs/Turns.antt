-- In a good state that hasn't ended somebody can go on.
use Rattle.std.proofs.Common.{◌≡◌, ◌⊎◌, inl, inr, ⊎_elim, ℕ, zero, suc, ◌<◌, ◌≤◌, true, false, ◌&&◌, List, [], ◌∷◌, length, get_or, slice_get, Some, None, refl, ap, ◌∙◌, arith, le-leb}
use Rattle.std.specs.Prelude.{ℤ}
use Rattle.std.proofs.lemmas.Option.{slice_get_within}
use Rattle.execution.specs.Events.{is_enabled}
use Rattle.execution.specs.Good.{IsGood}
use Rattle.execution.specs.Plans.{Load, Work, Plan, tiles_of, works_of}
use Rattle.execution.specs.Progress.{IsAmong}
use Rattle.execution.specs.Sound.{AreFound}
use Rattle.execution.specs.States.{Worker, resting, exhausted, working, State, Works, all_true, has_ended}
use Rattle.execution.specs.declared.event.Event.{Event}
use Rattle.execution.specs.declared.event.Event.TheVariants as event
use Rattle.execution.specs.declared.instance.Instance.{Instance}
use Rattle.execution.proofs.Enabled.{claim_enabled, load_enabled, store_enabled, next_enabled}
use Rattle.execution.proofs.Lists.{some_false, true_or_false, within_or_past}

found_length : (means : Instance → ℤ → Type 0) (loads : List Load) (values : List ℤ) → AreFound means loads values → length values ≤ length loads
found_length means loads [] f = omega arith
found_length means [] (v ∷ values) f = absurd f
found_length means (load ∷ loads) (v ∷ values) f = let rest = found_length means loads values f.1 in omega (arith, rest)

work_there : (works : List Work) (n : ℕ) → n < length works → (w : Work) × (slice_get works n ≡ Some w)
work_there [] n l = absurd (omega (arith, l))
work_there (w ∷ works) zero l = (w, refl)
work_there (w ∷ works) (suc n) l = work_there works n (omega (arith, l))

-- somebody isn't exhausted, or all are
abbrev Active : List Worker → Type 0
Active workers = (k : ℕ) × (worker : Worker) × (slice_get workers k ≡ Some worker) × (worker ≡ exhausted → ⊥)

abbrev AllSpent : List Worker → Type 0
AllSpent workers = (k : ℕ) (worker : Worker) → slice_get workers k ≡ Some worker → worker ≡ exhausted

active_or_spent : (workers : List Worker) → Active workers ⊎ AllSpent workers
active_or_spent [] = inr (λ k worker h. let none : None ≡ Some worker = h in cc)
active_or_spent (resting ∷ workers) = inl (zero, resting, refl, λ h. absurd (cc))
active_or_spent (working tile number values ∷ workers) = inl (zero, working tile number values, refl, λ h. absurd (cc))
active_or_spent (exhausted ∷ workers) = ⊎_elim (λ a. inl (suc a.0, a.1, a.2, a.3)) (λ all. inr (spent all)) (active_or_spent workers)
  where
    spent : AllSpent workers → AllSpent (exhausted ∷ workers)
    spent all zero worker h = cc
    spent all (suc k) worker h = all k worker h

module _ (means : Instance → ℤ → Type 0) (before : Instance → Instance → Type 0) (output : Instance → Type 0) (plan : Plan) (s : State) (good : IsGood means before output plan s) where
  abbrev Turn : Type 0
  Turn = (e : Event) × (is_enabled plan e s ≡ true) × IsAmong (length s.workers) e

  at_work : (k tile number : ℕ) (values : List ℤ) → Works s k tile number values → Turn
  at_work k tile number values works = by (work_there (works_of plan s.wave tile) number (good.kept.within k tile number values works))
    where
      inside : k < length s.workers
      inside = slice_get_within s.workers k (working tile number values) works

      by : (w : Work) × (slice_get (works_of plan s.wave tile) number ≡ Some w) → Turn
      by (w, stands) =
          let most = found_length means w.loads values (good.values k tile number values works w stands) in
          ⊎_elim
          (λ less. (event.Load k, load_enabled plan s k tile number values works w stands less, inside))
          (λ past. (event.Store k, store_enabled plan s k tile number values works w stands (omega (arith, most, past)), inside))
          (within_or_past (length values) (length w.loads))

  somebody : Active s.workers → Turn
  somebody (k, resting, at, other) = (event.Claim k, claim_enabled plan s k at, slice_get_within s.workers k resting at)
  somebody (k, exhausted, at, other) = absurd (other refl)
  somebody (k, working tile number values, at, other) = at_work k tile number values at

  module _ (some : 0 < length s.workers) (going : has_ended plan s ≡ false) where
    all_spent : AllSpent s.workers → Turn
    all_spent all = ⊎_elim done (λ is. absurd (unfinished (some_false s.finished is))) (true_or_false (all_true s.finished))
      where
        first_of : (workers : List Worker) → 0 < length workers → (worker : Worker) × (slice_get workers 0 ≡ Some worker)
        first_of [] l = absurd (omega (arith, l))
        first_of (worker ∷ workers) l = (worker, refl)

        late : length (tiles_of plan s.wave) ≤ s.counter
        late = let one = first_of s.workers some in good.kept.exhausted_late 0 (one.1 ∙ ap Some (all 0 one.0 one.1))

        unfinished : (t : ℕ) × (t < length s.finished) × (get_or s.finished t false ≡ false) → ⊥
        unfinished (t, inside, is) =
            let same = good.kept.tiles in
            let l = late in
            let owner = good.kept.owned t (omega (arith, inside, same, l)) (omega (arith, inside, same)) is in
            let spent = all owner.0 (working t owner.1 owner.2) owner.3 in
            cc

        done : all_true s.finished ≡ true → Turn
        done is = (event.Next, next_enabled plan s is more, tt)
          where
            more : suc s.wave < length plan.waves
            more = ⊎_elim (λ l. l) (λ past. absurd (ended past)) (within_or_past (suc s.wave) (length plan.waves))
              where
                ended : length plan.waves ≤ suc s.wave → ⊥
                ended past =
                    let yes : has_ended plan s ≡ true = (λ i. le-leb (length plan.waves) (suc s.wave) past i && is i) in
                    cc

    pub turn_enabled : Turn
    turn_enabled = ⊎_elim somebody all_spent (active_or_spent s.workers)
