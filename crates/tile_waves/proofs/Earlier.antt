-- What is before another instance is carried out earlier.
use Rattle.std.proofs.Common.{◌≡◌, inl, inr, ⊎_elim, ℕ, suc, ◌<◌, Bool, true, false, if◌then◌else◌, List, [], ◌∷◌, ◌++◌, length, get_or, slice_get, Some, refl, sym, ap, subst, ◌∙◌, arith}
use Rattle.std.specs.Prelude.{ℤ, pos, ◌<ℤ◌, ◌≤ℤ◌}
use Rattle.std.specs.Option.{option_map_or}
use Rattle.std.proofs.lemmas.Int.{ints}
use Rattle.std.proofs.lemmas.List.{length-map}
use Rattle.az_lin.specs.Affine.{Affine, AffineMap, value_at}
use Rattle.az_ast.specs.Points.{Precedes}
use Rattle.az_ast.specs.System.{System}
use Rattle.execution.specs.Plans.{IsEarlier}
use Rattle.execution.specs.declared.instance.Instance.{Instance}
use Rattle.execution.specs.declared.place.Place.{Place}
use Rattle.execution.proofs.Lists.{within_or_past}
use Rattle.target_map.specs.Before.{in_outer_step, in_unit_tile, in_same_tile, NoneExceeds}
use Rattle.target_map.specs.Kinds.{is_outer, is_band, is_inner, tile_sizes}
use Rattle.target_map.specs.Settings.{TargetMapping, IsMapping, IsComplete, order_number}
use Rattle.target_map.specs.Stamps.{part}
use Rattle.target_map.specs.Times.{time_of, IsBefore}
use Rattle.target_map.specs.declared.kind.Kind.{Kind}
use Rattle.target_map.proofs.Points.{compared, precedes_first}
use Rattle.tile_waves.specs.Keys.{block_sizes, floors, total, times_of, outer_of, band_of, processor_of, inner_of, tile_coordinates, wave_key, tile_key, work_key}
use Rattle.tile_waves.specs.Laws.{BeforeIsEarlier}
use Rattle.tile_waves.specs.Waves.{AllWaves, IsAt, IsInstance, IsOrdered, AreWaves}
use Rattle.tile_waves.proofs.Floors.{totals_rise, totals_less, same_floors}
use Rattle.tile_waves.proofs.Precedence.{never_itself, not_both, front_first, front_same, front_or_rest}

pub part_length : (test : Kind → Bool) (kinds : List Kind) (xs ys : List ℤ) → length xs ≡ length ys → length (part test kinds xs) ≡ length (part test kinds ys)
part_length test [] xs ys long = refl
part_length test (kind ∷ kinds) [] [] long = refl
part_length test (kind ∷ kinds) [] (y ∷ ys) long = absurd (omega (arith, long))
part_length test (kind ∷ kinds) (x ∷ xs) [] long = absurd (omega (arith, long))
part_length test (kind ∷ kinds) (x ∷ xs) (y ∷ ys) long = by (test kind) (part_length test kinds xs ys (omega (arith, long)))
  where
    by : (b : Bool) → length (part test kinds xs) ≡ length (part test kinds ys) →
        length (if b then x ∷ part test kinds xs else part test kinds xs) ≡ length (if b then y ∷ part test kinds ys else part test kinds ys)
    by true rest = ap suc rest
    by false rest = rest

-- which of two places comes first
data Order (n m : ℕ) : Type 0 where
  first : n < m → Order n m
  same : n ≡ m → Order n m
  second : m < n → Order n m

order_of : (n m : ℕ) → Order n m
order_of n m = ⊎_elim (λ l. first l) (λ past. ⊎_elim (λ l. second l) (λ other. same (omega (arith, past, other))) (within_or_past m n)) (within_or_past n m)

module _ (p : System) (m : TargetMapping) (params : List ℤ) (keeps : IsMapping m) (complete : IsComplete p m) where
  pub times_long : (u : Instance) → IsInstance p params u → length (times_of m params u) ≡ length m.kinds
  times_long u is =
      let f = complete.times u.variable is.written in
      length-map (time_of m u.variable).rows (λ (row : Affine). value_at row (params ++ u.point)) ∙ (ap (λ o. length (option_map_or (λ (g : AffineMap). g) o (record { width = 0; rows = [] })).rows) f.1 ∙ keeps.times u.variable f.0 f.1)

  module _ (waves : AllWaves) (are : AreWaves p m params waves) (q r : Place) (u v : Instance) (at_q : IsAt waves q u) (at_r : IsAt waves r v) where
    abbrev ordered : IsOrdered m params waves
    ordered = are.ordered

    long : length (times_of m params u) ≡ length (times_of m params v)
    long = times_long u (are.only q u at_q) ∙ sym (times_long v (are.only r v at_r))

    outer_long : length (outer_of m params u) ≡ length (outer_of m params v)
    outer_long = part_length is_outer m.kinds (times_of m params u) (times_of m params v) long

    band_long : length (band_of m params u) ≡ length (band_of m params v)
    band_long = part_length is_band m.kinds (times_of m params u) (times_of m params v) long

    inner_long : length (inner_of m params u) ≡ length (inner_of m params v)
    inner_long = part_length is_inner m.kinds (times_of m params u) (times_of m params v) long

    -- a lesser key of the wave
    wave_first : Precedes (wave_key m params u) (wave_key m params v) → q.wave < r.wave
    wave_first h = by (order_of q.wave r.wave)
      where
        by : Order q.wave r.wave → q.wave < r.wave
        by (first l) = l
        by (same e) = absurd (never_itself (wave_key m params u) (wave_key m params v) (ordered.one_wave q r u v at_q at_r e) h)
        by (second l) = absurd (not_both (wave_key m params u) (wave_key m params v) h (ordered.waves_rise r q v u at_r at_q l))

    wave_same : wave_key m params u ≡ wave_key m params v → q.wave ≡ r.wave
    wave_same e = by (order_of q.wave r.wave)
      where
        by : Order q.wave r.wave → q.wave ≡ r.wave
        by (first l) = absurd (never_itself (wave_key m params u) (wave_key m params v) e (ordered.waves_rise q r u v at_q at_r l))
        by (same e) = e
        by (second l) = absurd (never_itself (wave_key m params v) (wave_key m params u) (sym e) (ordered.waves_rise r q v u at_r at_q l))

    tile_same : q.wave ≡ r.wave → tile_key m params u ≡ tile_key m params v → q.tile ≡ r.tile
    tile_same wave e = by (order_of q.tile r.tile)
      where
        by : Order q.tile r.tile → q.tile ≡ r.tile
        by (first l) = absurd (never_itself (tile_key m params u) (tile_key m params v) e (ordered.tiles_rise q r u v at_q at_r wave l))
        by (same e) = e
        by (second l) = absurd (never_itself (tile_key m params v) (tile_key m params u) (sym e) (ordered.tiles_rise r q v u at_r at_q (sym wave) l))

    number_first : q.wave ≡ r.wave → q.tile ≡ r.tile → Precedes (work_key m params u) (work_key m params v) → q.number < r.number
    number_first wave tile h = by (order_of q.number r.number)
      where
        by : Order q.number r.number → q.number < r.number
        by (first l) = l
        by (same e) = absurd (never_itself (work_key m params u) (work_key m params v) (ap (work_key m params) one) h)
          where
            one : u ≡ v
            one = same_item (at_q) (subst (λ n. slice_get (get_or (get_or waves q.wave []) q.tile []) n ≡ Some v) (sym e) (subst (λ t. slice_get (get_or (get_or waves q.wave []) t []) r.number ≡ Some v) (sym tile) (subst (λ w. slice_get (get_or (get_or waves w []) r.tile []) r.number ≡ Some v) (sym wave) at_r)))
              where
                same_item : slice_get (get_or (get_or waves q.wave []) q.tile []) q.number ≡ Some u → slice_get (get_or (get_or waves q.wave []) q.tile []) q.number ≡ Some v → u ≡ v
                same_item a b = cc
        by (second l) = absurd (not_both (work_key m params u) (work_key m params v) h (ordered.instances_rise r q v u at_r at_q (sym wave) (sym tile) l))

    total_less : outer_of m params u ≡ outer_of m params v → total (tile_coordinates m params u) <ℤ total (tile_coordinates m params v) → IsEarlier q r
    total_less outer less =
        inl (wave_first (front_same (outer_of m params u) (outer_of m params v) (total (tile_coordinates m params u) ∷ []) (total (tile_coordinates m params v) ∷ []) outer
        (precedes_first (total (tile_coordinates m params u)) (total (tile_coordinates m params v)) [] [] less)))

    -- the rest of the key of an instance
    abbrev rest : Instance → List ℤ
    rest w = pos w.variable ∷ w.point

    abbrev numbered : Instance → List ℤ
    numbered w = pos (order_number m.statements w.variable) ∷ rest w

    inner_first : Precedes (inner_of m params u ++ pos (order_number m.statements u.variable) ∷ []) (inner_of m params v ++ pos (order_number m.statements v.variable) ∷ []) →
        Precedes (inner_of m params u ++ numbered u) (inner_of m params v ++ numbered v)
    inner_first h = ⊎_elim
        (λ l. front_first (inner_of m params u) (inner_of m params v) (numbered u) (numbered v) inner_long l)
        (λ s. front_same (inner_of m params u) (inner_of m params v) (numbered u) (numbered v) s.0
        (front_first (pos (order_number m.statements u.variable) ∷ []) (pos (order_number m.statements v.variable) ∷ []) (rest u) (rest v) refl s.1))
        (front_or_rest (inner_of m params u) (inner_of m params v) (pos (order_number m.statements u.variable) ∷ []) (pos (order_number m.statements v.variable) ∷ []) inner_long h)

    work_first : processor_of m params u ≡ processor_of m params v →
        Precedes (band_of m params u ++ (inner_of m params u ++ pos (order_number m.statements u.variable) ∷ [])) (band_of m params v ++ (inner_of m params v ++ pos (order_number m.statements v.variable) ∷ [])) →
        Precedes (work_key m params u) (work_key m params v)
    work_first processor h = ⊎_elim
        (λ l. front_first (band_of m params u) (band_of m params v) (processor_of m params u ++ (inner_of m params u ++ numbered u)) (processor_of m params v ++ (inner_of m params v ++ numbered v)) band_long l)
        (λ s. front_same (band_of m params u) (band_of m params v) (processor_of m params u ++ (inner_of m params u ++ numbered u)) (processor_of m params v ++ (inner_of m params v ++ numbered v)) s.0
        (front_same (processor_of m params u) (processor_of m params v) (inner_of m params u ++ numbered u) (inner_of m params v ++ numbered v) processor (inner_first s.1)))
        (front_or_rest (band_of m params u) (band_of m params v) (inner_of m params u ++ pos (order_number m.statements u.variable) ∷ []) (inner_of m params v ++ pos (order_number m.statements v.variable) ∷ []) band_long h)

    in_one_tile : outer_of m params u ≡ outer_of m params v → NoneExceeds (band_of m params u) (band_of m params v) → processor_of m params u ≡ processor_of m params v →
        Precedes (band_of m params u ++ (inner_of m params u ++ pos (order_number m.statements u.variable) ∷ [])) (band_of m params v ++ (inner_of m params v ++ pos (order_number m.statements v.variable) ∷ [])) →
        IsEarlier q r
    in_one_tile outer none processor h =
        ⊎_elim same_total
        (λ other. ⊎_elim (λ less. total_less outer less) (λ more. absurd (omega (arith, ints, most, more))) other)
        (compared (total (tile_coordinates m params u)) (total (tile_coordinates m params v)))
      where
        most : total (tile_coordinates m params u) ≤ℤ total (tile_coordinates m params v)
        most = totals_rise (tile_sizes m.kinds) (band_of m params u) (band_of m params v) band_long none

        same_total : total (tile_coordinates m params u) ≡ total (tile_coordinates m params v) → IsEarlier q r
        same_total e =
            let tiles = same_floors (tile_sizes m.kinds) (band_of m params u) (band_of m params v) band_long none e in
            let wave = wave_same (λ i. outer i ++ e i ∷ []) in
            let tile = tile_same wave (λ i. tiles i ++ floors (block_sizes m.kinds) (processor i)) in
            inr (wave, tile, number_first wave tile (work_first processor h))

    pub earlier : IsBefore m u.variable (params ++ u.point) v.variable (params ++ v.point) → IsEarlier q r
    earlier (in_outer_step h) =
        inl (wave_first (front_first (outer_of m params u) (outer_of m params v) (total (tile_coordinates m params u) ∷ []) (total (tile_coordinates m params v) ∷ []) outer_long h))
    earlier (in_unit_tile outer none some) = total_less outer (totals_less (tile_sizes m.kinds) (band_of m params u) (band_of m params v) band_long none some)
    earlier (in_same_tile outer none processor h) = in_one_tile outer none processor h

pub before_is_earlier : BeforeIsEarlier
before_is_earlier p m params keeps complete waves are q r u v at_q at_r h = earlier p m params keeps complete waves are q r u v at_q at_r h
