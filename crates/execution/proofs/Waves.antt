-- The next wave keeps a good state good.
use Rattle.std.proofs.Common.{◌≡◌, inr, ⊎_elim, ℕ, suc, ◌<◌, true, false, List, length, slice_get, Some, refl, ap, arith}
use Rattle.std.specs.Prelude.{ℤ}
use Rattle.std.proofs.lemmas.List.{length-replicate}
use Rattle.execution.specs.Events.{next_wave}
use Rattle.execution.specs.Good.{IsKept, IsGood}
use Rattle.execution.specs.Plans.{Work, Plan, tiles_of, Stands}
use Rattle.execution.specs.Sound.{IsSound}
use Rattle.execution.specs.States.{resting, exhausted, working, State, is_finished, Works, IsStored, in_earlier_wave, in_finished_tile, behind_worker, all_true}
use Rattle.execution.specs.declared.instance.Instance.{Instance}
use Rattle.execution.specs.declared.place.Place.{Place}
use Rattle.execution.proofs.Lists.{all_true-at, none_flagged, all_rest, within_or_past}
use Rattle.execution.proofs.Places.{stands_in_tile}
use Rattle.execution.proofs.Quiet.{IsQuiet, quiet_keeps}

module _ (plan : Plan) (s : State) (kept : IsKept plan s) (done : all_true s.finished ≡ true) where
  abbrev t : State
  t = next_wave plan s

  nobody : (k tile number : ℕ) (values : List ℤ) → Works t k tile number values → ⊥
  nobody k tile number values h = let rests : working tile number values ≡ resting = all_rest s.workers k (working tile number values) h in cc

  no_flag : (tile : ℕ) → is_finished t tile ≡ true → ⊥
  no_flag tile is = let no = none_flagged (length (tiles_of plan (suc s.wave))) tile in cc

  forth : (q : Place) → IsStored s q → IsStored t q
  forth q (in_earlier_wave l) = in_earlier_wave (omega (arith, l))
  forth q (in_finished_tile w f) = in_earlier_wave (omega (arith, w))
  forth q (behind_worker w k number values h l) = in_earlier_wave (omega (arith, w))

  back : (q : Place) (v : Work) → Stands plan q v → IsStored t q → IsStored s q
  back q v sq (in_earlier_wave l) = ⊎_elim (λ less. in_earlier_wave less) (λ past. here (omega (arith, l, past))) (within_or_past q.wave s.wave)
    where
      here : q.wave ≡ s.wave → IsStored s q
      here wave =
          let inside = stands_in_tile plan q v sq in
          let same = kept.tiles in
          let e : length (tiles_of plan q.wave) ≡ length (tiles_of plan s.wave) = ap (λ n. length (tiles_of plan n)) wave in
          in_finished_tile wave (all_true-at s.finished q.tile done (omega (arith, inside, same, e)))
  back q v sq (in_finished_tile w f) = absurd (no_flag q.tile f)
  back q v sq (behind_worker w k number values h l) = absurd (nobody k q.tile number values h)

  pub next_quiet : IsQuiet plan s (next_wave plan s)
  next_quiet = record {
    cells = refl;
    forth = λ q v sq h. forth q h;
    back = back;
    to_make = λ p w j sp unstored made k values wave h. absurd (unstored (in_earlier_wave (omega (arith, wave))));
  }

  pub next_kept : suc s.wave < length plan.waves → IsKept plan (next_wave plan s)
  next_kept more = record {
    wave = inr more;
    cells = kept.cells;
    tiles = length-replicate (length (tiles_of plan (suc s.wave))) false;
    within = λ k tile number values h. absurd (nobody k tile number values h);
    taken = λ k tile number values h. absurd (nobody k tile number values h);
    unfinished = λ k tile number values h. absurd (nobody k tile number values h);
    alone = λ j k tile number other values others h g. absurd (nobody j tile number values h);
    claimed = λ tile is. absurd (no_flag tile is);
    owned = λ tile less within is. absurd (omega (arith, less));
    exhausted_late = λ k is. absurd (none_exhausted k is);
    count = omega arith;
  }
    where
      none_exhausted : (k : ℕ) → slice_get t.workers k ≡ Some exhausted → ⊥
      none_exhausted k is = let rests : exhausted ≡ resting = all_rest s.workers k exhausted is in cc

  pub next_nobody : (k tile number : ℕ) (values : List ℤ) → Works (next_wave plan s) k tile number values → ⊥
  next_nobody = nobody

module _ (means : Instance → ℤ → Type 0) (before : Instance → Instance → Type 0) (output : Instance → Type 0) (plan : Plan) (sound : IsSound means before output plan) where
  pub next_good : (s : State) → IsGood means before output plan s → all_true s.finished ≡ true → suc s.wave < length plan.waves → IsGood means before output plan (next_wave plan s)
  next_good s good done more =
      quiet_keeps means before output plan sound s (next_wave plan s) (next_quiet plan s good.kept done) good (next_kept plan s good.kept done more)
      (λ k tile number values h w sw. absurd (next_nobody plan s good.kept done k tile number values h))
