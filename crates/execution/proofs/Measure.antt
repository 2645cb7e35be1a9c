-- Each enabled event leaves less to do.
use Rattle.std.proofs.Common.{◌≡◌, ℕ, zero, suc, ◌+◌, ◌<◌, ◌≤◌, Bool, true, false, nat_lt, if◌then◌else◌, List, [], ◌∷◌, ◌++◌, length, get_or, set, map, drop, slice_get, Some, None, refl, sym, ap, subst, arith, length-set, ltb-true}
use Rattle.std.specs.Prelude.{ℤ}
use Rattle.std.proofs.lemmas.List.{length_push}
use Rattle.execution.specs.Events.{claimed, stored, next_wave, is_enabled, after}
use Rattle.execution.specs.Plans.{Work, Plan, tiles_of, works_of, place, Stands, value_of}
use Rattle.execution.specs.Progress.{works_left, tiles_left, waves_left, worker_left, workers_left, work_left}
use Rattle.execution.specs.States.{Worker, resting, exhausted, working, State, word, Works}
use Rattle.execution.specs.declared.event.Event.{Event}
use Rattle.execution.specs.declared.event.Event.TheVariants as event
use Rattle.execution.proofs.Enabled.{after-enabled, claim_rests, next_ready, after-load, after-store, load_at, store_at, load_there}
use Rattle.execution.proofs.StoreSteps.{changed_to}
use Rattle.execution.proofs.Workers.{replaced}

works-drop : (works : List Work) (n : ℕ) (w : Work) → slice_get works n ≡ Some w → works_left (drop n works) ≡ suc (length w.loads) + works_left (drop (suc n) works)
works-drop [] n w h = let none : None ≡ Some w = h in absurd (cc)
works-drop (x ∷ works) zero w h = let same : x ≡ w = cc in let e : length x.loads ≡ length w.loads = ap (λ (v : Work). length v.loads) same in omega (arith, e)
works-drop (x ∷ works) (suc n) w h = works-drop works n w h

tiles-drop : (tiles : List (List Work)) (i : ℕ) → i < length tiles → tiles_left (drop i tiles) ≡ suc (works_left (get_or tiles i [])) + tiles_left (drop (suc i) tiles)
tiles-drop [] i l = absurd (omega (arith, l))
tiles-drop (tile ∷ tiles) zero l = refl
tiles-drop (tile ∷ tiles) (suc i) l = tiles-drop tiles i (omega (arith, l))

tiles-less : (tiles : List (List Work)) (i : ℕ) → tiles_left (drop (suc i) tiles) ≤ tiles_left (drop i tiles)
tiles-less [] zero = omega arith
tiles-less [] (suc i) = omega arith
tiles-less (tile ∷ tiles) zero = omega arith
tiles-less (tile ∷ tiles) (suc i) = tiles-less tiles i

waves-drop : (count : ℕ) (waves : List (List (List Work))) (i : ℕ) → i < length waves → waves_left count (drop i waves) ≡ suc (count + tiles_left (get_or waves i [])) + waves_left count (drop (suc i) waves)
waves-drop count [] i l = absurd (omega (arith, l))
waves-drop count (wave ∷ waves) zero l = refl
waves-drop count (wave ∷ waves) (suc i) l = waves-drop count waves i (omega (arith, l))

module _ (plan : Plan) (wave : ℕ) where
  workers-set :
      (workers : List Worker) (k : ℕ) (old new : Worker) → slice_get workers k ≡ Some old →
      workers_left plan wave (set workers k new) + worker_left plan wave old ≡ workers_left plan wave workers + worker_left plan wave new
  workers-set [] k old new h = let none : None ≡ Some old = h in absurd (cc)
  workers-set (w ∷ workers) zero old new h =
      let same : w ≡ old = cc in
      let e : worker_left plan wave w ≡ worker_left plan wave old = ap (worker_left plan wave) same in
      omega (arith, e)
  workers-set (w ∷ workers) (suc k) old new h = let rest = workers-set workers k old new h in omega (arith, rest)

  rest-left : (workers : List Worker) → workers_left plan wave (map (λ w. resting) workers) ≡ length workers
  rest-left [] = refl
  rest-left (w ∷ workers) = let rest = rest-left workers in omega (arith, rest)

map-length : (workers : List Worker) → length (map (λ w. resting) workers) ≡ length workers
map-length [] = refl
map-length (w ∷ workers) = ap suc (map-length workers)

module _ (plan : Plan) (s : State) where
  -- a worker changes in the same wave, and the counter doesn't go back
  same_wave :
      (cells : List ℤ) (finished : List Bool) (counter k : ℕ) (old new : Worker) → slice_get s.workers k ≡ Some old →
      tiles_left (drop counter (tiles_of plan s.wave)) + worker_left plan s.wave new < tiles_left (drop s.counter (tiles_of plan s.wave)) + worker_left plan s.wave old →
      work_left plan (record { wave = s.wave; counter = counter; cells = cells; finished = finished; workers = set s.workers k new }) < work_left plan s
  same_wave cells finished counter k old new at less =
      let moved = workers-set plan s.wave s.workers k old new at in
      let later : waves_left (length (set s.workers k new)) (drop (suc s.wave) plan.waves) ≡ waves_left (length s.workers) (drop (suc s.wave) plan.waves)
      = ap (λ n. waves_left n (drop (suc s.wave) plan.waves)) (length-set s.workers k new) in
      omega (arith, moved, later, less)

  claim_falls : (k : ℕ) → slice_get s.workers k ≡ Some resting → work_left plan (claimed plan k s) < work_left plan s
  claim_falls k rests = by (nat_lt s.counter (length (tiles_of plan s.wave))) refl
    where
      by : (b : Bool) → nat_lt s.counter (length (tiles_of plan s.wave)) ≡ b → work_left plan (replaced s (suc s.counter) k (if b then working s.counter 0 [] else exhausted)) < work_left plan s
      by true is =
          let one = tiles-drop (tiles_of plan s.wave) s.counter (ltb-true s.counter (length (tiles_of plan s.wave)) is) in
          same_wave s.cells s.finished (suc s.counter) k resting (working s.counter 0 []) rests (omega (arith, one))
      by false is =
          let one = tiles-less (tiles_of plan s.wave) s.counter in
          same_wave s.cells s.finished (suc s.counter) k resting exhausted rests (omega (arith, one))

  module _ (k tile number : ℕ) (values : List ℤ) (works : Works s k tile number values) (w : Work) (stands : Stands plan (place s.wave tile number) w) where
    load_falls : (v : ℤ) → length values < length w.loads → work_left plan (replaced s s.counter k (working tile number (values ++ v ∷ []))) < work_left plan s
    load_falls v less =
        let here = works-drop (works_of plan s.wave tile) number w stands in
        let long = length_push values v in
        same_wave s.cells s.finished s.counter k (working tile number values) (working tile number (values ++ v ∷ [])) works (omega (arith, here, long, less))

    store_falls : length values ≡ length w.loads → work_left plan (stored plan k s (record { tile = tile; number = number; values = values; work = w })) < work_left plan s
    store_falls all = by (nat_lt (suc number) (length (works_of plan s.wave tile)))
      where
        here : works_left (drop number (works_of plan s.wave tile)) ≡ suc (length w.loads) + works_left (drop (suc number) (works_of plan s.wave tile))
        here = works-drop (works_of plan s.wave tile) number w stands

        by : (b : Bool) → work_left plan (if b then changed_to s w.cell (value_of w values) s.finished (set s.workers k (working tile (suc number) [])) else changed_to s w.cell (value_of w values) (set s.finished tile true) (set s.workers k resting)) < work_left plan s
        by true = same_wave (set s.cells w.cell (value_of w values)) s.finished s.counter k (working tile number values) (working tile (suc number) []) works (let h = here in omega (arith, h, all))
        by false = same_wave (set s.cells w.cell (value_of w values)) (set s.finished tile true) s.counter k (working tile number values) resting works (let h = here in omega (arith, h, all))

  next_falls : suc s.wave < length plan.waves → work_left plan (next_wave plan s) < work_left plan s
  next_falls more =
      let later = waves-drop (length s.workers) plan.waves (suc s.wave) more in
      let count = map-length s.workers in
      let rest = rest-left plan (suc s.wave) s.workers in
      let same : waves_left (length (map (λ w. resting) s.workers)) (drop (suc (suc s.wave)) plan.waves) ≡ waves_left (length s.workers) (drop (suc (suc s.wave)) plan.waves)
      = ap (λ n. waves_left n (drop (suc (suc s.wave)) plan.waves)) count in
      omega (arith, later, rest, same)

  pub event_falls : (e : Event) → is_enabled plan e s ≡ true → work_left plan (after plan e s) < work_left plan s
  event_falls (event.Claim k) is = subst (λ t. work_left plan t < work_left plan s) (sym (after-enabled plan s (event.Claim k) is)) (claim_falls k (claim_rests plan s k is))
  event_falls (event.Load k) is =
      let one = load_at plan s k is in
      let load = load_there one.0.work (length one.0.values) one.2 in
      subst (λ t. work_left plan t < work_left plan s)
      (sym (after-load plan s k one.0.tile one.0.number one.0.values one.1.works one.0.work one.1.stands load.0 load.1 one.2))
      (load_falls k one.0.tile one.0.number one.0.values one.1.works one.0.work one.1.stands (word s load.0.cell) one.2)
  event_falls (event.Store k) is =
      let one = store_at plan s k is in
      subst (λ t. work_left plan t < work_left plan s)
      (sym (after-store plan s k one.0.tile one.0.number one.0.values one.1.works one.0.work one.1.stands one.2))
      (store_falls k one.0.tile one.0.number one.0.values one.1.works one.0.work one.1.stands one.2)
  event_falls event.Next is =
      let one = next_ready plan s is in
      subst (λ t. work_left plan t < work_left plan s) (sym (after-enabled plan s event.Next is)) (next_falls one.1)
