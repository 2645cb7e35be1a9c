-- The sorted and nested instances are the waves.
use Rattle.std.proofs.Common.{◌≡◌, ◌⊎◌, inl, inr, ⊎_elim, ℕ, zero, suc, ◌<◌, true, false, List, [], ◌∷◌, ◌++◌, length, get_or, slice_get, Option, Some, None, refl, sym, ap, subst, ◌∙◌, arith, All, Contains, IsPermutation, IsSorted, swap, not}
use Rattle.std.specs.Prelude.{ℤ, pos}
use Rattle.std.specs.Option.{option_map_or}
use Rattle.std.proofs.lemmas.List.{length-map}
use Rattle.std.proofs.lemmas.List.Edits.{swapped_from_swap, length-swap}
use Rattle.std.proofs.lemmas.List.Elements.{All-get_or}
use Rattle.std.proofs.lemmas.List.Sorted.{All-permutation, Contains-permutation, IsPermutation-map, IsPermutation-keeps}
use Rattle.std.proofs.lemmas.Option.{slice_get_within, slice_get-get_or, get_or_from_slice_get}
use Rattle.az_ast.specs.Shapes.{is_input}
use Rattle.az_ast.specs.System.{System}
use Rattle.az_ast.specs.declared.program.Variable.{Variable}
use Rattle.execution.specs.declared.instance.Instance.{Instance}
use Rattle.execution.specs.declared.place.Place.{Place}
use Rattle.execution.proofs.Lists.{same_or_other, within_or_past}
use Rattle.execution.proofs.Places.{same_place}
use Rattle.target_map.specs.Kinds.{is_band, is_processor, is_inner}
use Rattle.target_map.specs.Settings.{TargetMapping, IsMapping, IsComplete, is_written, order_number}
use Rattle.tile_waves.specs.Answers.{IsUnrefused}
use Rattle.tile_waves.specs.Inner.Items.{item_cmp, IsItem, instances_of}
use Rattle.tile_waves.specs.Inner.Listed.{AreListed}
use Rattle.tile_waves.specs.Inner.Nested.{waves_of}
use Rattle.tile_waves.specs.Keys.{times_of, band_of, processor_of, inner_of, wave_key, tile_key, work_key}
use Rattle.tile_waves.specs.Waves.{IsInstance, IsAt, IsOrdered, AreWaves}
use Rattle.tile_waves.specs.declared.item.Item.{Item}
use Rattle.tile_waves.proofs.Earlier.{part_length, times_long}
use Rattle.tile_waves.proofs.ItemOrder.{IsFirst, IsTied, IsRising, rising_sorted}
use Rattle.tile_waves.proofs.Nested.{to_map, standing, stands_somewhere, ordered}
use Rattle.tile_waves.proofs.Precedence.{never_itself, same_front}
use Rattle.tile_waves.proofs.VariableLists.{IsOnce}

-- swaps keep that nothing stands twice
module _ (us : List Instance) (a b : ℕ) (in_a : a < length us) (in_b : b < length us) (once : IsOnce us) where
  record IsFrom (k : ℕ) (u : Instance) : Type 0 where
    source : ℕ
    there : slice_get us source ≡ Some u
    where_ : ((k ≡ a) × (source ≡ b)) ⊎ (((k ≡ b) × (source ≡ a)) ⊎ ((k ≡ a → ⊥) × (k ≡ b → ⊥) × (source ≡ k)))

  from_swap : (k : ℕ) (u : Instance) → slice_get (swap us a b) k ≡ Some u → IsFrom k u
  from_swap k u h = ⊎_elim at_a (λ not_a. ⊎_elim at_b (λ not_b. elsewhere not_a not_b) (same_or_other k b)) (same_or_other k a)
    where
      value : get_or (swap us a b) k u ≡ u
      value = get_or_from_slice_get (swap us a b) k u u h

      inside : k < length us
      inside = let l = slice_get_within (swap us a b) k u h in let len = length-swap us a b in omega (arith, l, len)

      at_a : k ≡ a → IsFrom k u
      at_a same =
          let moved = swapped_from_swap us (swap us a b) a b u in_a in_b refl in
          let is : get_or us b u ≡ u = sym moved.0 ∙ (ap (λ n. get_or (swap us a b) n u) (sym same) ∙ value) in
          record { source = b; there = slice_get-get_or us b u in_b ∙ ap Some is; where_ = inl (same, refl) }

      at_b : k ≡ b → IsFrom k u
      at_b same =
          let moved = swapped_from_swap us (swap us a b) a b u in_a in_b refl in
          let is : get_or us a u ≡ u = sym moved.1 ∙ (ap (λ n. get_or (swap us a b) n u) (sym same) ∙ value) in
          record { source = a; there = slice_get-get_or us a u in_a ∙ ap Some is; where_ = inr (inl (same, refl)) }

      elsewhere : (k ≡ a → ⊥) → (k ≡ b → ⊥) → IsFrom k u
      elsewhere not_a not_b =
          let moved = swapped_from_swap us (swap us a b) a b u in_a in_b refl in
          let is : get_or us k u ≡ u = sym (moved.2 k not_a not_b) ∙ value in
          record { source = k; there = slice_get-get_or us k u inside ∙ ap Some is; where_ = inr (inr (not_a, not_b, refl)) }

  once_swap : IsOnce (swap us a b)
  once_swap i j u h g = by (from_swap i u h) (from_swap j u g)
    where
      by : IsFrom i u → IsFrom j u → i ≡ j
      by f k =
          let same = once f.source k.source u f.there k.there in
          ⊎_elim
          (λ x. ⊎_elim (λ y. x.0 ∙ sym y.0) (λ z. ⊎_elim (λ y. omega (arith, same, x.0, x.1, y.0, y.1)) (λ y. absurd (y.1 (sym (sym x.1 ∙ (same ∙ y.2))))) z) k.where_)
          (λ w. ⊎_elim
          (λ x. ⊎_elim (λ y. omega (arith, same, x.0, x.1, y.0, y.1)) (λ z. ⊎_elim (λ y. x.0 ∙ sym y.0) (λ y. absurd (y.0 (sym (sym x.1 ∙ (same ∙ y.2))))) z) k.where_)
          (λ x. ⊎_elim (λ y. absurd (x.1 (sym x.2 ∙ (same ∙ y.1)))) (λ z. ⊎_elim (λ y. absurd (x.0 (sym x.2 ∙ (same ∙ y.1)))) (λ y. sym x.2 ∙ (same ∙ y.2)) z) k.where_) w)
          f.where_

once_permuted : (us vs : List Instance) → IsPermutation us vs → IsOnce us → IsOnce vs
once_permuted us vs permutation once = IsPermutation-keeps us IsOnce once (λ l i j in_i in_j is. once_swap l i j in_i in_j is) vs permutation

all_at : {X : Type 0} (P : X → Type 0) (xs : List X) → All P xs → (k : ℕ) (x : X) → slice_get xs k ≡ Some x → P x
all_at P xs all k x h = subst P (get_or_from_slice_get xs k x x h) (All-get_or P xs k x (slice_get_within xs k x h) all)

contained_at : (items : List Item) (u : Instance) → Contains (instances_of items) u → (k : ℕ) × (item : Item) × (slice_get items k ≡ Some item) × (item.instance ≡ u)
contained_at [] u (k, h, e) = absurd (omega (arith, h))
contained_at (item ∷ items) u (zero, h, e) = (zero, item, refl, e)
contained_at (item ∷ items) u (suc k, h, e) = let one = contained_at items u (k, omega (arith, h), e) in (suc one.0, one.1, one.2, one.3)

declared : (p : System) (x : ℕ) → is_written p x → x < length p.variables
declared p x written = by (slice_get p.variables x) refl written
  where
    by : (o : Option Variable) → o ≡ slice_get p.variables x → option_map_or (λ (v : Variable). not (is_input v.role)) o false ≡ true → x < length p.variables
    by None e h = absurd (let two : false ≡ true = h in cc)
    by (Some v) e h = slice_get_within p.variables x v (sym e)

module _
    (p : System) (m : TargetMapping) (params : List ℤ) (keeps : IsMapping m) (complete : IsComplete p m)
    (listed items : List Item) (are : AreListed p m params (length p.variables) listed) (same : IsPermutation listed items) (sorted : IsSorted item_cmp items) where
  keys : (k : ℕ) (item : Item) → slice_get items k ≡ Some item → IsItem m params item
  keys k item h = all_at (IsItem m params) items (All-permutation (IsItem m params) listed items same are.keys) k item h

  moved : IsPermutation (instances_of listed) (instances_of items)
  moved = IsPermutation-map (λ (i : Item). i.instance) listed items same

  only : (k : ℕ) (item : Item) → slice_get items k ≡ Some item → IsInstance p params item.instance
  only k item h = all_at (IsInstance p params) (instances_of items) (All-permutation (IsInstance p params) (instances_of listed) (instances_of items) moved are.instances.only) k item.instance
      (to_map (λ (i : Item). i.instance) items k item h)

  once : IsOnce (instances_of items)
  once = once_permuted (instances_of listed) (instances_of items) moved are.instances.once

  -- an instance is known by its key
  same_instance : (u v : Instance) → IsInstance p params u → IsInstance p params v → work_key m params u ≡ work_key m params v → u ≡ v
  same_instance u v iu iv e =
      let long : length (times_of m params u) ≡ length (times_of m params v) = times_long p m params keeps complete u iu ∙ sym (times_long p m params keeps complete v iv) in
      let one = same_front (band_of m params u) (band_of m params v) (rest_u u) (rest_u v) (part_length is_band m.kinds (times_of m params u) (times_of m params v) long) e in
      let two = same_front (processor_of m params u) (processor_of m params v) (inner_u u) (inner_u v) (part_length is_processor m.kinds (times_of m params u) (times_of m params v) long) one.1 in
      let three = same_front (inner_of m params u) (inner_of m params v) (last_u u) (last_u v) (part_length is_inner m.kinds (times_of m params u) (times_of m params v) long) two.1 in
      by three.1
    where
      last_u : Instance → List ℤ
      last_u w = pos (order_number m.statements w.variable) ∷ (pos w.variable ∷ w.point)

      inner_u : Instance → List ℤ
      inner_u w = inner_of m params w ++ (pos (order_number m.statements w.variable) ∷ (pos w.variable ∷ w.point))

      rest_u : Instance → List ℤ
      rest_u w = processor_of m params w ++ (inner_of m params w ++ (pos (order_number m.statements w.variable) ∷ (pos w.variable ∷ w.point)))

      by : (pos (order_number m.statements u.variable) ∷ (pos u.variable ∷ u.point)) ≡ (pos (order_number m.statements v.variable) ∷ (pos v.variable ∷ v.point)) → u ≡ v
      by h = let variable : u.variable ≡ v.variable = cc in let point : u.point ≡ v.point = cc in λ i. record { variable = variable i; point = point i }

  apart : (i j : ℕ) (x y : Item) → slice_get items i ≡ Some x → slice_get items j ≡ Some y → IsTied x y → i ≡ j
  apart i j x y h g tie =
      let work = sym (keys i x h).work ∙ (tie.work ∙ (keys j y g).work) in
      let one = same_instance x.instance y.instance (only i x h) (only j y g) work in
      once i j x.instance (to_map (λ (k : Item). k.instance) items i x h) (to_map (λ (k : Item). k.instance) items j y g ∙ ap Some (sym one))

  rising : IsRising IsFirst items
  rising = rising_sorted items sorted apart

  in_order : IsOrdered m params (waves_of items)
  in_order = ordered items rising m params keys

  stands_once : (q r : Place) (u : Instance) → IsAt (waves_of items) q u → IsAt (waves_of items) r u → q ≡ r
  stands_once q r u at_q at_r = wave (same_or_other q.wave r.wave)
    where
      number : q.wave ≡ r.wave → q.tile ≡ r.tile → q.number ≡ r.number
      number w t = ⊎_elim
          (λ l. absurd (never_itself (work_key m params u) (work_key m params u) refl (in_order.instances_rise q r u u at_q at_r w t l)))
          (λ past. ⊎_elim
          (λ l. absurd (never_itself (work_key m params u) (work_key m params u) refl (in_order.instances_rise r q u u at_r at_q (sym w) (sym t) l)))
          (λ other. omega (arith, past, other)) (within_or_past r.number q.number))
          (within_or_past q.number r.number)

      tile : q.wave ≡ r.wave → q.tile ≡ r.tile
      tile w = ⊎_elim
          (λ l. absurd (never_itself (tile_key m params u) (tile_key m params u) refl (in_order.tiles_rise q r u u at_q at_r w l)))
          (λ past. ⊎_elim
          (λ l. absurd (never_itself (tile_key m params u) (tile_key m params u) refl (in_order.tiles_rise r q u u at_r at_q (sym w) l)))
          (λ other. omega (arith, past, other)) (within_or_past r.tile q.tile))
          (within_or_past q.tile r.tile)

      wave_is : q.wave ≡ r.wave
      wave_is = ⊎_elim
          (λ l. absurd (never_itself (wave_key m params u) (wave_key m params u) refl (in_order.waves_rise q r u u at_q at_r l)))
          (λ past. ⊎_elim
          (λ l. absurd (never_itself (wave_key m params u) (wave_key m params u) refl (in_order.waves_rise r q u u at_r at_q l)))
          (λ other. omega (arith, past, other)) (within_or_past r.wave q.wave))
          (within_or_past q.wave r.wave)

      wave : (q.wave ≡ r.wave) ⊎ (q.wave ≡ r.wave → ⊥) → q ≡ r
      wave decided = let w = wave_is in let t = tile w in same_place q r w t (number w t)

  stands_every : (u : Instance) → IsInstance p params u → (q : Place) × IsAt (waves_of items) q u
  stands_every u is =
      let one = are.every u is (declared p u.variable is.written) in
      let two = contained_at items u (Contains-permutation (instances_of listed) (instances_of items) u moved one) in
      let three = stands_somewhere items rising two.0 two.1 two.2 in
      (three.0, subst (IsAt (waves_of items) three.0) two.3 three.1)

  pub waves_are : AreWaves p m params (waves_of items)
  waves_are = record {
    only = λ q u h. let s = standing items rising q u h in subst (IsInstance p params) s.is (only s.place s.item s.there);
    every = stands_every;
    once = stands_once;
    ordered = in_order;
  }

  pub waves_unrefused : IsUnrefused p m params
  waves_unrefused = record {
    domains = λ x written. are.domains x written (declared p x written);
    few = (
      instances_of listed,
      are.instances,
      λ u is. are.every u is (declared p u.variable is.written),
      (let few = are.few in let count = length-map listed (λ (i : Item). i.instance) in omega (arith, few, count)),
    );
    near = λ u is. are.near u is (declared p u.variable is.written);
  }
