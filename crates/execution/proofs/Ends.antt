-- The start is good, and an ended state has the meaning of each output.
use Rattle.std.proofs.Common.{◌≡◌, ◌⊎◌, inl, inr, ⊎_elim, ℕ, zero, suc, ◌<◌, ◌≤◌, Bool, true, false, ◌&&◌, nat_le, List, [], length, get_or, replicate, slice_get, Some, refl, ap, arith, leb-true}
use Rattle.std.specs.Prelude.{ℤ, pos}
use Rattle.std.proofs.lemmas.List.{length-replicate, get_or_past}
use Rattle.execution.specs.Good.{IsKept, IsGood}
use Rattle.execution.specs.Plans.{Work, Plan, tiles_of, Stands}
use Rattle.execution.specs.Sound.{IsSound}
use Rattle.execution.specs.States.{resting, exhausted, working, State, is_finished, Works, IsStored, in_earlier_wave, in_finished_tile, behind_worker, start, all_true, has_ended}
use Rattle.execution.specs.declared.instance.Instance.{Instance}
use Rattle.execution.specs.declared.place.Place.{Place}
use Rattle.execution.proofs.Lists.{all_true-at, none_flagged, start_rest, within_or_past}
use Rattle.execution.proofs.Places.{stands_in_tile, passed, reached}

no_words : (n cell : ℕ) → get_or (replicate n (pos 0)) cell (pos 0) ≡ pos 0
no_words zero cell = refl
no_words (suc n) zero = refl
no_words (suc n) (suc cell) = no_words n cell

module _ (plan : Plan) (count : ℕ) where
  abbrev s : State
  s = start plan count

  nobody : (k tile number : ℕ) (values : List ℤ) → Works s k tile number values → ⊥
  nobody k tile number values h = let rests : working tile number values ≡ resting = start_rest count k (working tile number values) h in cc

  no_flag : (tile : ℕ) → is_finished s tile ≡ true → ⊥
  no_flag tile is = let no = none_flagged (length (tiles_of plan 0)) tile in cc

  pub none_stored : (p : Place) → IsStored (start plan count) p → ⊥
  none_stored p (in_earlier_wave l) = omega (arith, l)
  none_stored p (in_finished_tile w f) = no_flag p.tile f
  none_stored p (behind_worker w k number values h l) = nobody k p.tile number values h

  start_kept : IsKept plan s
  start_kept = record {
    wave = inl refl;
    cells = length-replicate plan.cells (pos 0);
    tiles = length-replicate (length (tiles_of plan 0)) false;
    within = λ k tile number values h. absurd (nobody k tile number values h);
    taken = λ k tile number values h. absurd (nobody k tile number values h);
    unfinished = λ k tile number values h. absurd (nobody k tile number values h);
    alone = λ j k tile number other values others h g. absurd (nobody j tile number values h);
    claimed = λ tile is. absurd (no_flag tile is);
    owned = λ tile less within is. absurd (omega (arith, less));
    exhausted_late = λ k is. absurd (none_exhausted k is);
    count = omega arith;
  }
    where
      none_exhausted : (k : ℕ) → slice_get s.workers k ≡ Some exhausted → ⊥
      none_exhausted k is = let rests : exhausted ≡ resting = start_rest count k exhausted is in cc

  pub start_good : (means : Instance → ℤ → Type 0) (before : Instance → Instance → Type 0) (output : Instance → Type 0) → IsSound means before output plan → IsGood means before output plan (start plan count)
  start_good means before output sound = record {
    kept = start_kept;
    cells = λ cell l. inl (no_words plan.cells cell, λ p w sp at st. none_stored p st);
    loads = λ p w sp unstored j load at made q v sq named st. absurd (none_stored q st);
    outputs = λ p w sp is st. absurd (none_stored p st);
    values = λ k tile number values h w sw. absurd (nobody k tile number values h);
    passed = passed means before output plan sound s;
    reached = reached means before output plan sound s;
  }

both_true : (a b : Bool) → (a && b) ≡ true → (a ≡ true) × (b ≡ true)
both_true true b is = (refl, is)
both_true false b is = absurd (let two : false ≡ true = is in cc)

module _ (plan : Plan) (s : State) (kept : IsKept plan s) (ended : has_ended plan s ≡ true) where
  -- an instance of the plan stands in one of its waves
  stands_in_wave : (p : Place) (w : Work) → Stands plan p w → p.wave < length plan.waves
  stands_in_wave p w h = by (within_or_past p.wave (length plan.waves))
    where
      by : (p.wave < length plan.waves) ⊎ (length plan.waves ≤ p.wave) → p.wave < length plan.waves
      by (inl l) = l
      by (inr past) =
          let none : tiles_of plan p.wave ≡ [] = get_or_past plan.waves p.wave [] past in
          let inside = stands_in_tile plan p w h in
          absurd (omega (arith, inside, ap length none))

  pub all_stored : (p : Place) (w : Work) → Stands plan p w → IsStored s p
  all_stored p w h =
      let parts = both_true (nat_le (length plan.waves) (suc s.wave)) (all_true s.finished) ended in
      let last = leb-true (length plan.waves) (suc s.wave) parts.0 in
      let inside = stands_in_wave p w h in
      ⊎_elim (λ less. in_earlier_wave less) (λ past. here parts.1 (omega (arith, last, inside, past))) (within_or_past p.wave s.wave)
    where
      here : all_true s.finished ≡ true → p.wave ≡ s.wave → IsStored s p
      here done wave =
          let inside = stands_in_tile plan p w h in
          let same = kept.tiles in
          let e : length (tiles_of plan p.wave) ≡ length (tiles_of plan s.wave) = ap (λ n. length (tiles_of plan n)) wave in
          in_finished_tile wave (all_true-at s.finished p.tile done (omega (arith, inside, same, e)))
