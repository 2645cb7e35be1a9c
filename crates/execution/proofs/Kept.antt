-- A worker that stays in its tile takes nothing from the others.
use Rattle.std.proofs.Common.{◌≡◌, ⊎_elim, ℕ, ◌<◌, List, length, set, slice_get, Some, sym, ap, subst, ◌∙◌, arith}
use Rattle.std.specs.Prelude.{ℤ}
use Rattle.execution.specs.Good.{IsKept}
use Rattle.execution.specs.Plans.{Plan, works_of}
use Rattle.execution.specs.States.{Worker, exhausted, working, State, Works}
use Rattle.execution.proofs.Lists.{same_or_other, set_same, kept_other, changed, exhausted-set}

module _
    (plan : Plan) (s : State) (kept : IsKept plan s)
    (k tile number : ℕ) (values : List ℤ) (works : Works s k tile number values)
    (next : ℕ) (more : List ℤ) (inside : next < length (works_of plan s.wave tile))
    (cells : List ℤ) (same_cells : length cells ≡ length s.cells) where
  abbrev new : Worker
  new = working tile next more

  abbrev t : State
  t = record { wave = s.wave; counter = s.counter; cells = cells; finished = s.finished; workers = set s.workers k new }

  abbrev WorksIn : State → ℕ → ℕ → Type 0
  WorksIn u j other = (n : ℕ) × (vs : List ℤ) × Works u j other n vs

  -- each worker has the tile that it had
  before : (j other n : ℕ) (vs : List ℤ) → Works t j other n vs → WorksIn s j other
  before j other n vs h =
      ⊎_elim (λ here. (number, values, moved here.0 (tile_is here.1))) (λ off. (n, vs, off.1))
      (changed s.workers k j (working tile number values) new (working other n vs) works h)
    where
      tile_is : working other n vs ≡ new → other ≡ tile
      tile_is e = cc

      moved : j ≡ k → other ≡ tile → Works s j other number values
      moved same e = ap (slice_get s.workers) same ∙ (works ∙ ap (λ o. Some (working o number values)) (sym e))

  after : (j other n : ℕ) (vs : List ℤ) → Works s j other n vs → WorksIn t j other
  after j other n vs h =
      ⊎_elim (λ same. (next, more, moved same (tile_is same))) (λ off. (n, vs, kept_other s.workers k j new (working other n vs) off h)) (same_or_other j k)
    where
      tile_is : j ≡ k → other ≡ tile
      tile_is same = let here : slice_get s.workers j ≡ Some (working tile number values) = ap (slice_get s.workers) same ∙ works in cc

      moved : j ≡ k → other ≡ tile → Works t j other next more
      moved same e = ap (slice_get t.workers) same ∙ (set_same s.workers k new (working tile number values) works ∙ ap (λ o. Some (working o next more)) (sym e))

  inside_still : (j other n : ℕ) (vs : List ℤ) → Works t j other n vs → n < length (works_of plan s.wave other)
  inside_still j other n vs h =
      ⊎_elim (λ here. of_new here.1) (λ off. kept.within j other n vs off.1)
      (changed s.workers k j (working tile number values) new (working other n vs) works h)
    where
      of_new : working other n vs ≡ new → n < length (works_of plan s.wave other)
      of_new e =
          let at : other ≡ tile = cc in
          let here : n ≡ next = cc in
          subst (λ o. n < length (works_of plan s.wave o)) (sym at) (omega (arith, here, inside))

  exhausted_before : (j : ℕ) → slice_get t.workers j ≡ Some exhausted → slice_get s.workers j ≡ Some exhausted
  exhausted_before j h = ⊎_elim (λ here. absurd (cc)) (λ off. off.1) (changed s.workers k j (working tile number values) new exhausted works h)

  pub same_tile_kept : IsKept plan (record { wave = s.wave; counter = s.counter; cells = cells; finished = s.finished; workers = set s.workers k (working tile next more) })
  same_tile_kept = record {
    wave = kept.wave;
    cells = same_cells ∙ kept.cells;
    tiles = kept.tiles;
    within = inside_still;
    taken = λ j other n vs h. let was = before j other n vs h in kept.taken j other was.0 was.1 was.2;
    unfinished = λ j other n vs h. let was = before j other n vs h in kept.unfinished j other was.0 was.1 was.2;
    alone = λ i j other n m vs us h g.
        let one = before i other n vs h in let two = before j other m us g in kept.alone i j other one.0 two.0 one.1 two.1 one.2 two.2;
    claimed = kept.claimed;
    owned = λ other less within is.
        let was = kept.owned other less within is in let now = after was.0 other was.1 was.2 was.3 in (was.0, now.0, now.1, now.2);
    exhausted_late = λ j is. kept.exhausted_late j (exhausted_before j is);
    count =
        let same = exhausted-set s.workers k (working tile number values) new works in
        let count = kept.count in
        omega (arith, same, count);
  }
