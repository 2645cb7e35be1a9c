-- What an event leaves, where the premises are known of one worker alone.
use Rattle.std.proofs.Common.{◌≡◌, ℕ, zero, suc, ◌<◌, Bool, true, false, ◌&&◌, nat_lt, if◌then◌else◌, List, [], ◌∷◌, ◌++◌, length, slice_get, Option, Some, None, refl, sym, ap, subst, ◌∙◌, arith, lt-ltb, eq-eqb, ltb-true, eqb-true}
use Rattle.std.specs.Prelude.{ℤ, option_map}
use Rattle.std.specs.Option.{option_map_or}
use Rattle.execution.specs.Events.{Current, current_of, current, is_resting, has_load, has_all_loads, is_enabled, loaded, stored, effect, after, after_all}
use Rattle.execution.specs.Good.{IsGood}
use Rattle.execution.specs.Plans.{Load, Work, Plan, works_of, place, Stands}
use Rattle.execution.specs.Sound.{IsSound}
use Rattle.execution.specs.States.{Worker, resting, exhausted, working, State, word, Works, all_true}
use Rattle.execution.specs.declared.event.Event.{Event}
use Rattle.execution.specs.declared.event.Event.TheVariants as event
use Rattle.execution.specs.declared.instance.Instance.{Instance}
use Rattle.execution.proofs.Claims.{claim_good}
use Rattle.execution.proofs.LoadSteps.{load_good}
use Rattle.execution.proofs.StoreSteps.{store_good}
use Rattle.execution.proofs.Waves.{next_good}
use Rattle.execution.proofs.Workers.{replaced}

module _ (plan : Plan) (s : State) where
  -- an enabled event has its effect
  pub after-enabled : (e : Event) → is_enabled plan e s ≡ true → after plan e s ≡ effect plan e s
  unfolding after
  after-enabled e is = ap (λ b. if b then effect plan e s else s) is

  pub after-other : (e : Event) → is_enabled plan e s ≡ false → after plan e s ≡ s
  unfolding after
  after-other e is = ap (λ b. if b then effect plan e s else s) is

  pub claim_enabled : (k : ℕ) → slice_get s.workers k ≡ Some resting → is_enabled plan (event.Claim k) s ≡ true
  unfolding is_enabled
  claim_enabled k rests = ap is_resting rests

  pub claim_rests : (k : ℕ) → is_enabled plan (event.Claim k) s ≡ true → slice_get s.workers k ≡ Some resting
  unfolding is_enabled
  claim_rests k is = by (slice_get s.workers k) refl is
    where
      by : (o : Option Worker) → o ≡ slice_get s.workers k → is_resting o ≡ true → slice_get s.workers k ≡ Some resting
      by None e h = absurd (let two : false ≡ true = h in cc)
      by (Some resting) e h = sym e
      by (Some exhausted) e h = absurd (let two : false ≡ true = h in cc)
      by (Some (working tile number values)) e h = absurd (let two : false ≡ true = h in cc)

  pub next_enabled : all_true s.finished ≡ true → suc s.wave < length plan.waves → is_enabled plan event.Next s ≡ true
  unfolding is_enabled
  next_enabled done more = ap (λ b. b && nat_lt (suc s.wave) (length plan.waves)) done ∙ lt-ltb (suc s.wave) (length plan.waves) more

  pub next_ready : is_enabled plan event.Next s ≡ true → (all_true s.finished ≡ true) × (suc s.wave < length plan.waves)
  unfolding is_enabled
  next_ready is = by (all_true s.finished) (nat_lt (suc s.wave) (length plan.waves)) refl refl is
    where
      by : (a b : Bool) → a ≡ all_true s.finished → b ≡ nat_lt (suc s.wave) (length plan.waves) → (a && b) ≡ true → (all_true s.finished ≡ true) × (suc s.wave < length plan.waves)
      by true true e f h = (sym e, ltb-true (suc s.wave) (length plan.waves) (sym f))
      by true false e f h = absurd (let two : false ≡ true = h in cc)
      by false b e f h = absurd (let two : false ≡ true = h in cc)

  -- a worker at an instance
  module _ (k tile number : ℕ) (values : List ℤ) (works : Works s k tile number values) (w : Work) (stands : Stands plan (place s.wave tile number) w) where
    abbrev pub at_work : Current
    at_work = record { tile = tile; number = number; values = values; work = w }

    pub current_is : current plan s k ≡ Some (record { tile = tile; number = number; values = values; work = w })
    current_is =
        ap (current_of plan s.wave) works
        ∙ ap (option_map (λ (work : Work). record { tile = tile; number = number; values = values; work = work })) stands

    pub load_enabled : length values < length w.loads → is_enabled plan (event.Load k) s ≡ true
    unfolding is_enabled
    load_enabled less = ap has_load current_is ∙ lt-ltb (length values) (length w.loads) less

    pub store_enabled : length values ≡ length w.loads → is_enabled plan (event.Store k) s ≡ true
    unfolding is_enabled
    store_enabled all = ap has_all_loads current_is ∙ eq-eqb (length values) (length w.loads) all

    pub after-load : (load : Load) → slice_get w.loads (length values) ≡ Some load → length values < length w.loads →
        after plan (event.Load k) s ≡ replaced s s.counter k (working tile number (values ++ word s load.cell ∷ []))
    after-load load at less =
        after-enabled (event.Load k) (load_enabled less)
        ∙ (ap (λ o. option_map_or (loaded k s) o s) current_is
        ∙ ap (λ o. replaced s s.counter k (working tile number (values ++ word s (option_map_or (λ (l : Load). l.cell) o 0) ∷ []))) at)

    pub after-store : length values ≡ length w.loads → after plan (event.Store k) s ≡ stored plan k s (record { tile = tile; number = number; values = values; work = w })
    after-store all = after-enabled (event.Store k) (store_enabled all) ∙ ap (λ o. option_map_or (stored plan k s) o s) current_is

  -- who has a current instance works there
  pub record IsAt (k : ℕ) (c : Current) : Type 0 where
    pub works : Works s k c.tile c.number c.values
    pub stands : Stands plan (place s.wave c.tile c.number) c.work

  pub current_at : (k : ℕ) (c : Current) → current plan s k ≡ Some c → IsAt k c
  current_at k c is = by (slice_get s.workers k) refl is
    where
      work_of : (tile number : ℕ) (values : List ℤ) → Works s k tile number values → (o : Option Work) → o ≡ slice_get (works_of plan s.wave tile) number →
          option_map (λ (work : Work). record { tile = tile; number = number; values = values; work = work }) o ≡ Some c → IsAt k c
      work_of tile number values h None e g = absurd (let none : None ≡ Some c = g in cc)
      work_of tile number values h (Some w) e g =
          let same : record { tile = tile; number = number; values = values; work = w } ≡ c = cc in
          subst (IsAt k) same (record { works = h; stands = sym e })

      by : (o : Option Worker) → o ≡ slice_get s.workers k → current_of plan s.wave o ≡ Some c → IsAt k c
      by None e h = absurd (let none : None ≡ Some c = h in cc)
      by (Some resting) e h = absurd (let none : None ≡ Some c = h in cc)
      by (Some exhausted) e h = absurd (let none : None ≡ Some c = h in cc)
      by (Some (working tile number values)) e h = work_of tile number values (sym e) (slice_get (works_of plan s.wave tile) number) refl h

  pub load_at : (k : ℕ) → is_enabled plan (event.Load k) s ≡ true → (c : Current) × IsAt k c × (length c.values < length c.work.loads)
  unfolding is_enabled
  load_at k is = by (current plan s k) refl is
    where
      by : (o : Option Current) → o ≡ current plan s k → has_load o ≡ true → (c : Current) × IsAt k c × (length c.values < length c.work.loads)
      by None e h = absurd (let two : false ≡ true = h in cc)
      by (Some c) e h = (c, current_at k c (sym e), ltb-true (length c.values) (length c.work.loads) h)

  pub store_at : (k : ℕ) → is_enabled plan (event.Store k) s ≡ true → (c : Current) × IsAt k c × (length c.values ≡ length c.work.loads)
  unfolding is_enabled
  store_at k is = by (current plan s k) refl is
    where
      by : (o : Option Current) → o ≡ current plan s k → has_all_loads o ≡ true → (c : Current) × IsAt k c × (length c.values ≡ length c.work.loads)
      by None e h = absurd (let two : false ≡ true = h in cc)
      by (Some c) e h = (c, current_at k c (sym e), eqb-true (length c.values) (length c.work.loads) h)

pub load_there : (w : Work) (j : ℕ) → j < length w.loads → (load : Load) × (slice_get w.loads j ≡ Some load)
load_there w j less = at w.loads j less
  where
    at : (loads : List Load) (i : ℕ) → i < length loads → (load : Load) × (slice_get loads i ≡ Some load)
    at [] i l = absurd (omega (arith, l))
    at (load ∷ loads) zero l = (load, refl)
    at (load ∷ loads) (suc i) l = at loads i (omega (arith, l))

module _ (means : Instance → ℤ → Type 0) (before : Instance → Instance → Type 0) (output : Instance → Type 0) (plan : Plan) (sound : IsSound means before output plan) (s : State) (good : IsGood means before output plan s) where
  abbrev Good : State → Type 0
  Good = IsGood means before output plan

  pub claim_keeps : (k : ℕ) → slice_get s.workers k ≡ Some resting → Good (after plan (event.Claim k) s)
  claim_keeps k rests = subst Good (sym (after-enabled plan s (event.Claim k) (claim_enabled plan s k rests))) (claim_good means before output plan sound s k rests good)

  module _ (k tile number : ℕ) (values : List ℤ) (works : Works s k tile number values) (w : Work) (stands : Stands plan (place s.wave tile number) w) where
    pub load_keeps : length values < length w.loads → Good (after plan (event.Load k) s)
    load_keeps less =
        let one = load_there w (length values) less in
        subst Good (sym (after-load plan s k tile number values works w stands one.0 one.1 less))
        (load_good means before output plan sound s good k tile number values works w stands one.0 one.1)

    pub store_keeps : length values ≡ length w.loads → Good (after plan (event.Store k) s)
    store_keeps all = subst Good (sym (after-store plan s k tile number values works w stands all)) (store_good means before output plan sound s good k tile number values works w stands all)

  pub next_keeps : all_true s.finished ≡ true → suc s.wave < length plan.waves → Good (after plan event.Next s)
  next_keeps done more = subst Good (sym (after-enabled plan s event.Next (next_enabled plan s done more))) (next_good means before output plan sound s good done more)

  enabled_keeps : (e : Event) → is_enabled plan e s ≡ true → Good (after plan e s)
  enabled_keeps (event.Claim k) is = claim_keeps k (claim_rests plan s k is)
  enabled_keeps (event.Load k) is = let one = load_at plan s k is in load_keeps k one.0.tile one.0.number one.0.values one.1.works one.0.work one.1.stands one.2
  enabled_keeps (event.Store k) is = let one = store_at plan s k is in store_keeps k one.0.tile one.0.number one.0.values one.1.works one.0.work one.1.stands one.2
  enabled_keeps event.Next is = let one = next_ready plan s is in next_keeps one.0 one.1

  pub event_keeps : (e : Event) → Good (after plan e s)
  event_keeps e = by (is_enabled plan e s) refl
    where
      by : (b : Bool) → b ≡ is_enabled plan e s → Good (after plan e s)
      by true is = enabled_keeps e (sym is)
      by false is = subst Good (sym (after-other plan s e (sym is))) good

module _ (means : Instance → ℤ → Type 0) (before : Instance → Instance → Type 0) (output : Instance → Type 0) (plan : Plan) (sound : IsSound means before output plan) where
  pub events_keep : (events : List Event) (s : State) → IsGood means before output plan s → IsGood means before output plan (after_all plan events s)
  events_keep [] s good = good
  events_keep (e ∷ events) s good = events_keep events (after plan e s) (event_keeps means before output plan sound s good e)
