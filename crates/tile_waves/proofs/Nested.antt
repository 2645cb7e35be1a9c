-- Items in order, as waves of tiles: what stands where.
use Rattle.std.proofs.Common.{◌≡◌, ℕ, zero, suc, ◌<◌, List, [], ◌∷◌, length, get_or, map, slice_get, Some, None, reverse, refl, sym, ap, subst, ◌∙◌, arith}
use Rattle.std.specs.Prelude.{ℤ}
use Rattle.std.proofs.lemmas.List.{length-map}
use Rattle.az_ast.specs.Points.{Precedes}
use Rattle.execution.specs.Plans.{place}
use Rattle.execution.specs.declared.instance.Instance.{Instance}
use Rattle.execution.specs.declared.place.Place.{Place}
use Rattle.execution.proofs.Lists.{listed_within}
use Rattle.target_map.specs.Settings.{TargetMapping}
use Rattle.tile_waves.specs.Inner.Cuts.{groups_of}
use Rattle.tile_waves.specs.Inner.Items.{IsItem, instances_of}
use Rattle.tile_waves.specs.Inner.Nested.{tiles_of, waves_of}
use Rattle.tile_waves.specs.Keys.{wave_key, tile_key, work_key}
use Rattle.tile_waves.specs.Waves.{IsAt, IsOrdered}
use Rattle.tile_waves.specs.declared.item.Item.{Item}
use Rattle.tile_waves.specs.declared.level.Level.TheVariants.{Wave, Tile}
use Rattle.tile_waves.proofs.Cuts.{Holds, AreGroups, groups_are}
use Rattle.tile_waves.proofs.ItemOrder.{IsFirst, IsFirstIn, wave_upward, tile_upward, work_rises, IsRising, in_reverse, from_reverse, falling_reverse}

module _ {X Y : Type 0} (f : X → Y) where
  pub at_map : (xs : List X) (k : ℕ) (y : Y) → slice_get (map f xs) k ≡ Some y → (x : X) × (slice_get xs k ≡ Some x) × (f x ≡ y)
  at_map [] k y h = absurd (let none : None ≡ Some y = h in cc)
  at_map (x ∷ xs) zero y h = (x, refl, cc)
  at_map (x ∷ xs) (suc k) y h = at_map xs k y h

  pub to_map : (xs : List X) (k : ℕ) (x : X) → slice_get xs k ≡ Some x → slice_get (map f xs) k ≡ Some (f x)
  to_map [] k x h = absurd (let none : None ≡ Some x = h in cc)
  to_map (z ∷ xs) zero x h = let same : z ≡ x = cc in ap (λ w. Some (f w)) same
  to_map (z ∷ xs) (suc k) x h = to_map xs k x h

instances_at : (groups : List (List Item)) (i : ℕ) → get_or (map instances_of groups) i [] ≡ instances_of (get_or groups i [])
instances_at [] i = refl
instances_at (g ∷ groups) zero = refl
instances_at (g ∷ groups) (suc i) = instances_at groups i

tiles_at : (groups : List (List Item)) (i : ℕ) → get_or (map tiles_of groups) i [] ≡ tiles_of (get_or groups i [])
tiles_at [] i = refl
tiles_at (g ∷ groups) zero = refl
tiles_at (g ∷ groups) (suc i) = tiles_at groups i

module _ (items : List Item) (rising : IsRising IsFirst items) where
  -- the groups of the waves, and in each the groups of the tiles
  abbrev waves : List (List Item)
  waves = groups_of Wave (reverse items)

  abbrev wave_at : ℕ → List Item
  wave_at wave = get_or waves wave []

  abbrev tiles : ℕ → List (List Item)
  tiles wave = groups_of Tile (reverse (wave_at wave))

  in_waves : AreGroups Wave IsFirst wave_upward (reverse items) waves
  in_waves = groups_are Wave IsFirst wave_upward (reverse items) (falling_reverse IsFirst items rising)

  wave_rising : (wave : ℕ) → IsRising IsFirstIn (wave_at wave)
  wave_rising wave i j x y h g l = (in_waves.one_key wave i j x y h g, in_waves.inner wave i j x y h g l)

  in_tiles : (wave : ℕ) → AreGroups Tile IsFirstIn tile_upward (reverse (wave_at wave)) (tiles wave)
  in_tiles wave = groups_are Tile IsFirstIn tile_upward (reverse (wave_at wave)) (falling_reverse IsFirstIn (wave_at wave) (wave_rising wave))

  -- what stands at a place
  pub record IsStanding (q : Place) (u : Instance) : Type 0 where
    pub item : Item
    pub held : Holds (tiles q.wave) q.tile q.number item
    pub number : ℕ
    pub in_wave : Holds waves q.wave number item
    pub place : ℕ
    pub there : slice_get items place ≡ Some item
    pub is : item.instance ≡ u

  tile_at : (wave tile : ℕ) → get_or (get_or (waves_of items) wave []) tile [] ≡ instances_of (get_or (tiles wave) tile [])
  tile_at wave tile = ap (λ ts. get_or ts tile []) (tiles_at waves wave) ∙ instances_at (tiles wave) tile

  pub standing : (q : Place) (u : Instance) → IsAt (waves_of items) q u → IsStanding q u
  standing q u h =
      let one = at_map (λ (item : Item). item.instance) (get_or (tiles q.wave) q.tile []) q.number u (sym (ap (λ us. slice_get us q.number) (tile_at q.wave q.tile)) ∙ h) in
      let two = (in_tiles q.wave).only q.tile q.number one.0 one.1 in
      let three = in_reverse IsFirst (wave_at q.wave) two.0 one.0 two.1 in
      let four = in_waves.only q.wave three.0 one.0 three.1 in
      let five = in_reverse IsFirst items four.0 one.0 four.1 in
      record { item = one.0; held = one.1; number = three.0; in_wave = three.1; place = five.0; there = five.1; is = one.2 }

  pub stands_somewhere : (k : ℕ) (item : Item) → slice_get items k ≡ Some item → (q : Place) × IsAt (waves_of items) q item.instance
  stands_somewhere k item h =
      let one = from_reverse IsFirst items k item h in
      let two = in_waves.every one.0 item one.1 in
      let three = from_reverse IsFirst (wave_at two.0) two.1 item two.2 in
      let four = (in_tiles two.0).every three.0 item three.1 in (
        place two.0 four.0 four.1,
        ap (λ us. slice_get us four.1) (tile_at two.0 four.0) ∙ to_map (λ (i : Item). i.instance) (get_or (tiles two.0) four.0 []) four.1 item four.2,
      )

  some_held : (groups : List (List Item)) (i a : ℕ) (x : Item) → Holds groups i a x → i < length groups
  some_held groups i a x h = listed_within groups i a x h

  first_of : (xs : List Item) → 0 < length xs → (x : Item) × (slice_get xs 0 ≡ Some x)
  first_of [] l = absurd (omega (arith, l))
  first_of (x ∷ xs) l = (x, refl)

  tile_exists : (wave : ℕ) → wave < length waves → 0 < length (tiles wave)
  tile_exists wave l =
      let one = first_of (wave_at wave) (in_waves.filled wave l) in
      let two = from_reverse IsFirst (wave_at wave) 0 one.0 one.1 in
      let three = (in_tiles wave).every two.0 one.0 two.1 in
      let inside = some_held (tiles wave) three.0 three.1 one.0 three.2 in
      omega (arith, inside)

  module _ (m : TargetMapping) (params : List ℤ) (keys : (k : ℕ) (item : Item) → slice_get items k ≡ Some item → IsItem m params item) where
    module _ (q r : Place) (u v : Instance) (at_q : IsAt (waves_of items) q u) (at_r : IsAt (waves_of items) r v) where
      abbrev sq : IsStanding q u
      sq = standing q u at_q

      abbrev sr : IsStanding r v
      sr = standing r v at_r

      wave_u : sq.item.wave ≡ wave_key m params u
      wave_u = (keys sq.place sq.item sq.there).wave ∙ ap (wave_key m params) sq.is

      wave_v : sr.item.wave ≡ wave_key m params v
      wave_v = (keys sr.place sr.item sr.there).wave ∙ ap (wave_key m params) sr.is

      tile_u : sq.item.tile ≡ tile_key m params u
      tile_u = (keys sq.place sq.item sq.there).tile ∙ ap (tile_key m params) sq.is

      tile_v : sr.item.tile ≡ tile_key m params v
      tile_v = (keys sr.place sr.item sr.there).tile ∙ ap (tile_key m params) sr.is

      work_u : sq.item.work ≡ work_key m params u
      work_u = (keys sq.place sq.item sq.there).work ∙ ap (work_key m params) sq.is

      work_v : sr.item.work ≡ work_key m params v
      work_v = (keys sr.place sr.item sr.there).work ∙ ap (work_key m params) sr.is

      same_wave : q.wave ≡ r.wave → wave_key m params u ≡ wave_key m params v
      same_wave e = sym wave_u ∙ (in_waves.one_key q.wave sq.number sr.number sq.item sr.item sq.in_wave (subst (λ n. Holds waves n sr.number sr.item) (sym e) sr.in_wave) ∙ wave_v)

      waves_first : q.wave < r.wave → Precedes (wave_key m params u) (wave_key m params v)
      waves_first l = subst (λ k. Precedes k (wave_key m params v)) wave_u (subst (Precedes sq.item.wave) wave_v (in_waves.rising q.wave r.wave sq.number sr.number sq.item sr.item sq.in_wave sr.in_wave l))

      moved : q.wave ≡ r.wave → Holds (tiles q.wave) r.tile r.number sr.item
      moved e = subst (λ n. Holds (tiles n) r.tile r.number sr.item) (sym e) sr.held

      same_tile : q.wave ≡ r.wave → q.tile ≡ r.tile → tile_key m params u ≡ tile_key m params v
      same_tile e t = sym tile_u ∙ ((in_tiles q.wave).one_key q.tile q.number r.number sq.item sr.item sq.held (subst (λ n. Holds (tiles q.wave) n r.number sr.item) (sym t) (moved e)) ∙ tile_v)

      tiles_first : q.wave ≡ r.wave → q.tile < r.tile → Precedes (tile_key m params u) (tile_key m params v)
      tiles_first e l = subst (λ k. Precedes k (tile_key m params v)) tile_u (subst (Precedes sq.item.tile) tile_v ((in_tiles q.wave).rising q.tile r.tile q.number r.number sq.item sr.item sq.held (moved e) l))

      works_first : q.wave ≡ r.wave → q.tile ≡ r.tile → q.number < r.number → Precedes (work_key m params u) (work_key m params v)
      works_first e t l =
          let there = subst (λ n. Holds (tiles q.wave) n r.number sr.item) (sym t) (moved e) in
          subst (λ k. Precedes k (work_key m params v)) work_u (subst (Precedes sq.item.work) work_v
          (work_rises sq.item sr.item ((in_tiles q.wave).inner q.tile q.number r.number sq.item sr.item sq.held there l)
          ((in_tiles q.wave).one_key q.tile q.number r.number sq.item sr.item sq.held there)))

    pub ordered : IsOrdered m params (waves_of items)
    ordered = record {
      one_wave = same_wave;
      waves_rise = waves_first;
      one_tile = same_tile;
      tiles_rise = tiles_first;
      instances_rise = works_first;
      some_tile = λ wave l.
          let count = length-map waves tiles_of in
          let some = tile_exists wave (omega (arith, l, count)) in
          subst (λ ts. 0 < length ts) (sym (tiles_at waves wave)) (let many = length-map (tiles wave) instances_of in omega (arith, many, some));
      some_instance = λ wave tile l.
          let count = ap length (tiles_at waves wave) in
          let many = length-map (tiles wave) instances_of in
          let some = (in_tiles wave).filled tile (omega (arith, l, count, many)) in
          subst (λ us. 0 < length us) (sym (tile_at wave tile)) (let more = length-map (get_or (tiles wave) tile []) (λ (item : Item). item.instance) in omega (arith, more, some));
    }
