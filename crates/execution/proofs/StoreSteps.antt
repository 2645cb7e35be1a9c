-- A store keeps a good state good: the cell that it takes is wanted by nobody any more.
use Rattle.std.proofs.Common.{◌≡◌, ◌⊎◌, inl, inr, ⊎_elim, ℕ, suc, ◌<◌, ◌≤◌, Bool, true, false, nat_lt, if◌then◌else◌, List, [], length, set, slice_get, Some, refl, sym, ap, subst, ◌∙◌, arith, get_or-set_same, get_or-set_other, length-set, ltb-true, ltb-false}
use Rattle.std.specs.Prelude.{ℤ, pos}
use Rattle.std.proofs.lemmas.List.{get_or_past}
use Rattle.std.proofs.lemmas.Option.{slice_get_within}
use Rattle.execution.specs.Events.{stored}
use Rattle.execution.specs.Good.{IsKept, IsToMake, IsBlank, HoldsSome, IsGood}
use Rattle.execution.specs.Plans.{Load, Work, Plan, tiles_of, works_of, place, Stands, value_of}
use Rattle.execution.specs.Sound.{IsSound, AreFound}
use Rattle.execution.specs.States.{Worker, resting, exhausted, working, State, word, is_finished, Works, IsStored, in_earlier_wave, in_finished_tile, behind_worker}
use Rattle.execution.specs.declared.instance.Instance.{Instance}
use Rattle.execution.specs.declared.place.Place.{Place}
use Rattle.execution.proofs.Kept.{same_tile_kept}
use Rattle.execution.proofs.Lists.{same_or_other, within_or_past, set_same, kept_other, changed, flag_set, flag_kept, flag_lacks, exhausted-set}
use Rattle.execution.proofs.Places.{same_place, not_stored, passed, reached}
use Rattle.execution.proofs.Quiet.{HasValues}

-- the state with a word, flags and workers of its own
abbrev pub changed_to : State → ℕ → ℤ → List Bool → List Worker → State
changed_to s cell v finished workers = record { wave = s.wave; counter = s.counter; cells = set s.cells cell v; finished = finished; workers = workers }

module _ (plan : Plan) (s : State) (k tile number : ℕ) where
  -- what a store changes: its instance is stored, and no other
  pub record IsStore (t : State) : Type 0 where
    pub forth : (q : Place) → IsStored s q → IsStored t q
    pub back : (q : Place) (v : Work) → Stands plan q v → IsStored t q → IsStored s q ⊎ (q ≡ place s.wave tile number)
    pub here : IsStored t (place s.wave tile number)
    pub others : (j : ℕ) (worker : Worker) → (j ≡ k → ⊥) → slice_get s.workers j ≡ Some worker → slice_get t.workers j ≡ Some worker
    pub own : (j other n : ℕ) (values : List ℤ) → Works t j other n values → (values ≡ []) ⊎ Works s j other n values

module _
    (means : Instance → ℤ → Type 0) (before : Instance → Instance → Type 0) (output : Instance → Type 0) (plan : Plan) (sound : IsSound means before output plan)
    (s : State) (good : IsGood means before output plan s)
    (k tile number : ℕ) (values : List ℤ) (works : Works s k tile number values)
    (w : Work) (stands : Stands plan (place s.wave tile number) w) (all : length values ≡ length w.loads) where
  abbrev here : Place
  here = place s.wave tile number

  abbrev value : ℤ
  value = value_of w values

  value_means : means w.instance value
  value_means = sound.values here w stands values all (good.values k tile number values works w stands)

  fresh : IsStored s here → ⊥
  fresh = not_stored s plan good.kept k tile number values works

  module _ (flags : List Bool) (workers : List Worker) (step : IsStore plan s k tile number (changed_to s w.cell value flags workers)) where
    abbrev t : State
    t = changed_to s w.cell value flags workers

    in_room : w.cell < length s.cells
    in_room = let room = sound.room here w stands in let same = good.kept.cells in omega (arith, room, same)

    word_here : word t w.cell ≡ value
    word_here = get_or-set_same s.cells w.cell value (pos 0) in_room

    word_other : (cell : ℕ) → (cell ≡ w.cell → ⊥) → word t cell ≡ word s cell
    word_other cell other = get_or-set_other s.cells w.cell cell value (pos 0) other

    -- a word means what the stored instance means
    holds_value : (u : Instance) (cell : ℕ) → cell ≡ w.cell → w.instance ≡ u → means u (word t cell)
    holds_value u cell at same = subst (λ c. means u (word t c)) (sym at) (subst (means u) (sym word_here) (subst (λ i. means i value) same value_means))

    stays : (u : Instance) (cell : ℕ) → (cell ≡ w.cell → ⊥) → means u (word s cell) → means u (word t cell)
    stays u cell other m = subst (means u) (sym (word_other cell other)) m

    work_here : (q : Place) (v : Work) → Stands plan q v → q ≡ here → v ≡ w
    work_here q v sv same = let one : Stands plan here v = subst (λ x. Stands plan x v) same sv in cc

    cells : (cell : ℕ) → cell < plan.cells → IsBlank means before output plan t cell ⊎ HoldsSome means before output plan t cell
    cells cell l = ⊎_elim (λ same. inr (here, w, stands, sym same, step.here, holds_value w.instance cell same refl)) (λ other. by other (good.cells cell l)) (same_or_other cell w.cell)
      where
        by : (cell ≡ w.cell → ⊥) → IsBlank means before output plan s cell ⊎ HoldsSome means before output plan s cell → IsBlank means before output plan t cell ⊎ HoldsSome means before output plan t cell
        by other (inl b) = inl (
          word_other cell other ∙ b.0,
          λ p v sv at st. ⊎_elim (λ was. b.1 p v sv at was) (λ same. other (sym at ∙ ap (λ x. x.cell) (work_here p v sv same))) (step.back p v sv st),
        )
        by other (inr h) = inr (h.0, h.1, h.2, h.3, step.forth h.0 h.4, stays h.1.instance cell other h.5)

    -- the load of an instance that isn't stored yet
    module _ (p : Place) (v : Work) (sp : Stands plan p v) (unstored : IsStored t p → ⊥) (j : ℕ) (load : Load) (at : slice_get v.loads j ≡ Some load) (made : IsToMake t p j) where
      other_place : p ≡ here → ⊥
      other_place same = unstored (subst (λ x. IsStored t x) (sym same) step.here)

      unstored_before : IsStored s p → ⊥
      unstored_before st = unstored (step.forth p st)

      made_before : IsToMake s p j
      made_before i us wave h = ⊎_elim (λ same. absurd (other_place (place_is i us wave same h))) (λ other. made i us wave (step.others i (working p.tile p.number us) other h)) (same_or_other i k)
        where
          place_is : (i : ℕ) (us : List ℤ) → p.wave ≡ s.wave → i ≡ k → Works s i p.tile p.number us → p ≡ here
          place_is i us wave same h = let one : p.tile ≡ tile = cc in let two : p.number ≡ number = cc in same_place p here wave one two

      module _ (q : Place) (u : Work) (sq : Stands plan q u) (named : u.instance ≡ load.named) where
        load_new : q ≡ here → means load.named (word t load.cell)
        load_new same =
            let of = sound.named p v sp j load at in
            let one = sound.once q of.0 u of.1 sq of.2 (named ∙ sym of.3) in
            let work = work_here q u sq same in
            let found = work_here of.0 of.1 of.2 (sym one ∙ same) in
            holds_value load.named load.cell (sym of.4 ∙ ap (λ x. x.cell) found) (sym (ap (λ x. x.instance) work) ∙ named)

        -- the cell of a load that is still to be made isn't the one that is stored into
        clash : load.cell ≡ w.cell → IsStored s q → means load.named (word t load.cell)
        clash same st = ⊎_elim
            (λ one. ⊎_elim
            (λ is. holds_value load.named load.cell same is)
            (λ b. absurd (fresh (good.passed q u sq st here w stands (subst (λ x. before w.instance x) (sym named) b)))) one)
            (λ two. ⊎_elim
            (λ is. absurd (other_place (sym (sound.once here p w v stands sp is))))
            (λ b. absurd (unstored_before (good.reached k tile number values works w stands p v sp b))) two)
            (sound.lifetime p v sp j load at here w stands (sym same))

        load_old : IsStored s q → means load.named (word t load.cell)
        load_old st = ⊎_elim (λ same. clash same st)
            (λ other. stays load.named load.cell other (good.loads p v sp unstored_before j load at made_before q u sq named st)) (same_or_other load.cell w.cell)

        load_holds : IsStored t q → means load.named (word t load.cell)
        load_holds st = ⊎_elim load_old load_new (step.back q u sq st)

    outputs : (p : Place) (v : Work) → Stands plan p v → output v.instance → IsStored t p → means v.instance (word t v.cell)
    outputs p v sp is st = ⊎_elim old new (step.back p v sp st)
      where
        new : p ≡ here → means v.instance (word t v.cell)
        new same = let work = work_here p v sp same in holds_value v.instance v.cell (ap (λ x. x.cell) work) (sym (ap (λ x. x.instance) work))

        clash : v.cell ≡ w.cell → IsStored s p → means v.instance (word t v.cell)
        clash same st = ⊎_elim
            (λ one. holds_value v.instance v.cell same one)
            (λ b. absurd (fresh (good.passed p v sp st here w stands b))) (sound.outputs p v sp is here w stands (sym same))

        old : IsStored s p → means v.instance (word t v.cell)
        old st = ⊎_elim (λ same. clash same st) (λ other. stays v.instance v.cell other (good.outputs p v sp is st)) (same_or_other v.cell w.cell)

    has_values : HasValues means before output plan t
    has_values j other n vs h v sv = ⊎_elim (λ none. subst (AreFound means v.loads) (sym none) tt) (λ g. good.values j other n vs g v sv) (step.own j other n vs h)

    pub store_keeps : IsKept plan (changed_to s w.cell value flags workers) → IsGood means before output plan (changed_to s w.cell value flags workers)
    store_keeps kept = record {
      kept = kept;
      cells = cells;
      loads = load_holds;
      outputs = outputs;
      values = has_values;
      passed = passed means before output plan sound t;
      reached = reached means before output plan sound t;
    }

-- what both ends of a store have in common: the worker `k` changes from its instance to another place
module _ (plan : Plan) (s : State) (kept : IsKept plan s) (k tile number : ℕ) (values : List ℤ) (works : Works s k tile number values) (cell : ℕ) (v : ℤ) where
  abbrev spot : Place
  spot = place s.wave tile number

  place_or_behind : (q : Place) → q.wave ≡ s.wave → q.tile ≡ tile → q.number ≤ number → IsStored s q ⊎ (q ≡ spot)
  place_or_behind q wave same l =
      ⊎_elim (λ less. inl (behind_worker wave k number values (subst (λ x. Works s k x number values) (sym same) works) less))
      (λ past. inr (same_place q spot wave same (omega (arith, l, past)))) (within_or_past q.number number)

  -- the worker goes on in its tile
  module _ (more : suc number < length (works_of plan s.wave tile)) where
    abbrev on : State
    on = changed_to s cell v s.finished (set s.workers k (working tile (suc number) []))

    on_is : Works on k tile (suc number) []
    on_is = set_same s.workers k (working tile (suc number) []) (working tile number values) works

    on_forth : (q : Place) → IsStored s q → IsStored on q
    on_forth q (in_earlier_wave l) = in_earlier_wave l
    on_forth q (in_finished_tile w f) = in_finished_tile w f
    on_forth q (behind_worker w j n us h l) =
        ⊎_elim (λ same. moved same) (λ other. behind_worker w j n us (kept_other s.workers k j (working tile (suc number) []) (working q.tile n us) other h) l) (same_or_other j k)
      where
        moved : j ≡ k → IsStored on q
        moved same =
            let one : q.tile ≡ tile = cc in
            let two : n ≡ number = cc in
            behind_worker w k (suc number) [] (subst (λ x. Works on k x (suc number) []) (sym one) on_is) (omega (arith, two, l))

    on_back : (q : Place) → IsStored on q → IsStored s q ⊎ (q ≡ spot)
    on_back q (in_earlier_wave l) = inl (in_earlier_wave l)
    on_back q (in_finished_tile w f) = inl (in_finished_tile w f)
    on_back q (behind_worker w j n us h l) =
        ⊎_elim (λ e. moved e.1) (λ e. inl (behind_worker w j n us e.1 l))
        (changed s.workers k j (working tile number values) (working tile (suc number) []) (working q.tile n us) works h)
      where
        moved : working q.tile n us ≡ working tile (suc number) [] → IsStored s q ⊎ (q ≡ spot)
        moved e =
            let one : q.tile ≡ tile = cc in
            let two : n ≡ suc number = cc in
            place_or_behind q w one (omega (arith, two, l))

    on_own : (j other n : ℕ) (us : List ℤ) → Works on j other n us → (us ≡ []) ⊎ Works s j other n us
    on_own j other n us h = ⊎_elim (λ e. inl (is e.1)) (λ e. inr e.1) (changed s.workers k j (working tile number values) (working tile (suc number) []) (working other n us) works h)
      where
        is : working other n us ≡ working tile (suc number) [] → us ≡ []
        is e = cc

    pub on_store : IsStore plan s k tile number (changed_to s cell v s.finished (set s.workers k (working tile (suc number) [])))
    on_store = record {
      forth = on_forth;
      back = λ q w sq h. on_back q h;
      here = behind_worker refl k (suc number) [] on_is (omega arith);
      others = λ j worker other h. kept_other s.workers k j (working tile (suc number) []) worker other h;
      own = on_own;
    }

    pub on_kept : IsKept plan (changed_to s cell v s.finished (set s.workers k (working tile (suc number) [])))
    on_kept = same_tile_kept plan s kept k tile number values works (suc number) [] more (set s.cells cell v) (length-set s.cells cell v)

  -- the tile is finished
  module _ (last : length (works_of plan s.wave tile) ≤ suc number) where
    abbrev end : State
    end = changed_to s cell v (set s.finished tile true) (set s.workers k resting)

    in_tiles : tile < length s.finished
    in_tiles =
        let inside = kept.within k tile number values works in
        let same = kept.tiles in
        ⊎_elim (λ h. omega (arith, h, same)) (λ h. absurd (let none = none_there h in omega (arith, none, inside))) (within_or_past tile (length (tiles_of plan s.wave)))
      where
        none_there : length (tiles_of plan s.wave) ≤ tile → length (works_of plan s.wave tile) ≡ 0
        none_there h = ap length (get_or_past (tiles_of plan s.wave) tile [] h)

    end_here : (q : Place) → q.wave ≡ s.wave → q.tile ≡ tile → IsStored end q
    end_here q wave same = in_finished_tile wave (ap (is_finished end) same ∙ get_or-set_same s.finished tile true false in_tiles)

    end_forth : (q : Place) → IsStored s q → IsStored end q
    end_forth q (in_earlier_wave l) = in_earlier_wave l
    end_forth q (in_finished_tile w f) = in_finished_tile w (flag_kept s.finished tile q.tile in_tiles f)
    end_forth q (behind_worker w j n us h l) =
        ⊎_elim (λ same. end_here q w (tile_is same)) (λ other. behind_worker w j n us (kept_other s.workers k j resting (working q.tile n us) other h) l) (same_or_other j k)
      where
        tile_is : j ≡ k → q.tile ≡ tile
        tile_is same = cc

    end_back : (q : Place) (w : Work) → Stands plan q w → IsStored end q → IsStored s q ⊎ (q ≡ spot)
    end_back q w sq (in_earlier_wave l) = inl (in_earlier_wave l)
    end_back q w sq (in_finished_tile wave f) = ⊎_elim (λ same. place_or_behind q wave same (inside same)) (λ was. inl (in_finished_tile wave was)) (flag_set s.finished tile q.tile f)
      where
        inside : q.tile ≡ tile → q.number ≤ number
        inside same =
            let l = slice_get_within (works_of plan q.wave q.tile) q.number w sq in
            let e : length (works_of plan q.wave q.tile) ≡ length (works_of plan s.wave tile) = (λ i. length (works_of plan (wave i) (same i))) in
            omega (arith, l, e, last)
    end_back q w sq (behind_worker wave j n us h l) =
        ⊎_elim (λ e. absurd (other e.1)) (λ e. inl (behind_worker wave j n us e.1 l))
        (changed s.workers k j (working tile number values) resting (working q.tile n us) works h)
      where
        other : working q.tile n us ≡ resting → ⊥
        other e = cc

    end_was : (j other n : ℕ) (us : List ℤ) → Works end j other n us → (j ≡ k → ⊥) × Works s j other n us
    end_was j other n us h = ⊎_elim (λ e. absurd (no e.1)) (λ e. (e.0, e.1)) (changed s.workers k j (working tile number values) resting (working other n us) works h)
      where
        no : working other n us ≡ resting → ⊥
        no e = cc

    pub end_store : IsStore plan s k tile number (changed_to s cell v (set s.finished tile true) (set s.workers k resting))
    end_store = record {
      forth = end_forth;
      back = end_back;
      here = end_here spot refl refl;
      others = λ j worker other h. kept_other s.workers k j resting worker other h;
      own = λ j other n us h. let was = end_was j other n us h in inr was.1;
    }

    end_open : (j other n : ℕ) (us : List ℤ) → (j ≡ k → ⊥) → Works s j other n us → is_finished end other ≡ false
    end_open j other n us apart h =
        ⊎_elim
        (λ same. absurd (apart (kept.alone j k tile n number us values (subst (λ x. Works s j x n us) same h) works)))
        (λ off. get_or-set_other s.finished tile other true false off ∙ kept.unfinished j other n us h) (same_or_other other tile)

    pub end_kept : IsKept plan (changed_to s cell v (set s.finished tile true) (set s.workers k resting))
    end_kept = record {
      wave = kept.wave;
      cells = length-set s.cells cell v ∙ kept.cells;
      tiles = length-set s.finished tile true ∙ kept.tiles;
      within = λ j other n us h. let was = end_was j other n us h in kept.within j other n us was.1;
      taken = λ j other n us h. let was = end_was j other n us h in kept.taken j other n us was.1;
      unfinished = λ j other n us h. let was = end_was j other n us h in end_open j other n us was.0 was.1;
      alone = λ i j other n m us vs h g. let one = end_was i other n us h in let two = end_was j other m vs g in kept.alone i j other n m us vs one.1 two.1;
      claimed = λ other is. ⊎_elim (λ same. let less = kept.taken k tile number values works in omega (arith, less, same)) (λ was. kept.claimed other was) (flag_set s.finished tile other is);
      owned = owner;
      exhausted_late = λ j is. ⊎_elim (λ e. absurd (no e.1)) (λ e. kept.exhausted_late j e.1) (changed s.workers k j (working tile number values) resting exhausted works is);
      count = let same = exhausted-set s.workers k (working tile number values) resting works in let count = kept.count in omega (arith, same, count);
    }
      where
        no : exhausted ≡ resting → ⊥
        no e = cc

        owner : (other : ℕ) → other < s.counter → other < length (tiles_of plan s.wave) → is_finished end other ≡ false → (j : ℕ) × (n : ℕ) × (us : List ℤ) × Works end j other n us
        owner other less within is =
            let lacks = flag_lacks s.finished tile other in_tiles is in
            let one = kept.owned other less within lacks.1 in
            (one.0, one.1, one.2, kept_other s.workers k one.0 resting (working other one.1 one.2) (apart lacks.0 one.0 one.1 one.2 one.3) one.3)
          where
            apart : (other ≡ tile → ⊥) → (j n : ℕ) (us : List ℤ) → Works s j other n us → j ≡ k → ⊥
            apart off j n us h same = off (let e : other ≡ tile = tile_is j n us h same in e)
              where
                tile_is : (j n : ℕ) (us : List ℤ) → Works s j other n us → j ≡ k → other ≡ tile
                tile_is j n us h same = cc

module _
    (means : Instance → ℤ → Type 0) (before : Instance → Instance → Type 0) (output : Instance → Type 0) (plan : Plan) (sound : IsSound means before output plan)
    (s : State) (good : IsGood means before output plan s)
    (k tile number : ℕ) (values : List ℤ) (works : Works s k tile number values)
    (w : Work) (stands : Stands plan (place s.wave tile number) w) (all : length values ≡ length w.loads) where
  pub store_good : IsGood means before output plan (stored plan k s (record { tile = tile; number = number; values = values; work = w }))
  store_good = by (nat_lt (suc number) (length (works_of plan s.wave tile))) refl
    where
      by : (b : Bool) → nat_lt (suc number) (length (works_of plan s.wave tile)) ≡ b → IsGood means before output plan
          (if b then changed_to s w.cell (value_of w values) s.finished (set s.workers k (working tile (suc number) [])) else changed_to s w.cell (value_of w values) (set s.finished tile true) (set s.workers k resting))
      by true is =
          let more = ltb-true (suc number) (length (works_of plan s.wave tile)) is in
          store_keeps means before output plan sound s good k tile number values works w stands all s.finished (set s.workers k (working tile (suc number) []))
          (on_store plan s good.kept k tile number values works w.cell (value_of w values) more)
          (on_kept plan s good.kept k tile number values works w.cell (value_of w values) more)
      by false is =
          let last = ltb-false (suc number) (length (works_of plan s.wave tile)) is in
          store_keeps means before output plan sound s good k tile number values works w stands all (set s.finished tile true) (set s.workers k resting)
          (end_store plan s good.kept k tile number values works w.cell (value_of w values) last)
          (end_kept plan s good.kept k tile number values works w.cell (value_of w values) last)
