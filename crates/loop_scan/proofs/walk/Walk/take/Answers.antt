use Rattle.std.proofs.Common.{◌≡◌, ◌∙◌, ap, arith, sym, subst, length, take, drop, set, get_or, ◌<◌, ◌+◌, ◌++◌, ℕ, suc, ℤ, pos, ◌+ℤ◌, ◌≤ℤ◌, add-one, to_z, of_z, FitsSigned, rules}
use Rattle.std.specs.Int.{w128}
use Rattle.std.proofs.lemmas.Int.{ints, to_z-of_z, fits_signed_from_abs}
use Rattle.std.proofs.lemmas.List.{length-set, get_or_read}
use Rattle.std.proofs.lemmas.List.Elements.{All-set, All-get_or}
use Rattle.az_lin.specs.Affine.{IsCoordinate}
use Rattle.loop_scan.specs.declared.range.Range.{Range}
use Rattle.loop_scan.specs.declared.walk.Walk.{Walk}
use Rattle.loop_scan.specs.Nest.Levels.{HasCoordinates}
use Rattle.loop_scan.specs.Hulls.{no_range}
use Rattle.loop_scan.specs.Nest.Walks.{walk, steps, remaining, work, IsWalk}
use Rattle.loop_scan.proofs.WalkSteps.{remaining-taken, work-taken, HasCoordinates-later}
use Rattle.loop_scan.proofs.walk.Walk.take.Goals as goal

-- what the read of a range says of it
module _ (it : Walk) (k : ℕ) (range : Range) (state : IsWalk it) (innermost : it.depth ≡ k + 1)
    (some : (get_or it.ranges.items k no_range).low ≤ℤ (get_or it.ranges.items k no_range).high) (read : range ≡ get_or it.ranges.items k range) where
  room : k < length it.ranges.items
  room = omega (arith, state.within, state.ranges)

  is : range ≡ get_or it.ranges.items k no_range
  is = get_or_read it.ranges.items k range room read no_range

  has : HasCoordinates range
  has = subst HasCoordinates (sym is) (All-get_or HasCoordinates it.ranges.items k no_range room state.bounded)

  order : range.low ≤ℤ range.high
  order = let P : Range → Type 0 = λ r. r.low ≤ℤ r.high in subst P (sym is) some

  pub low_small : IsCoordinate range.low
  low_small = has range.low (omega (arith, ints), order)

  pub low_is : to_z w128 (of_z w128 range.low) ≡ range.low
  low_is = let s = low_small in to_z-of_z w128 range.low (fits_signed_from_abs w128 range.low (omega arith))

  pub next_is : to_z w128 (of_z w128 (to_z w128 (of_z w128 range.low) +ℤ pos 1)) ≡ range.low +ℤ pos 1
  next_is = let s = low_small in
      ap (λ z. to_z w128 (of_z w128 (z +ℤ pos 1))) low_is ∙ to_z-of_z w128 (range.low +ℤ pos 1) (fits_signed_from_abs w128 (range.low +ℤ pos 1) (omega (arith, ints)))

  module _ (fits : FitsSigned w128 range.high) where
    pub later_is : ◌≡◌ {A = Range} (record { low = to_z w128 (of_z w128 (to_z w128 (of_z w128 range.low) +ℤ pos 1)); high = to_z w128 (of_z w128 range.high) }) (record { low = range.low +ℤ pos 1; high = range.high })
    later_is = let make : ℤ → ℤ → Range = λ low high. record { low = low; high = high } in
        ap (λ z. make z (to_z w128 (of_z w128 range.high))) next_is ∙ ap (make (range.low +ℤ pos 1)) (to_z-of_z w128 range.high fits)

    pub later_has : HasCoordinates (record { low = to_z w128 (of_z w128 (to_z w128 (of_z w128 range.low) +ℤ pos 1)); high = to_z w128 (of_z w128 range.high) })
    later_has = subst HasCoordinates (sym later_is) (HasCoordinates-later range.low range.high has)

    pub left :
        remaining it.levels.items it.point.items it.ranges.items it.depth
        ≡ walk (drop it.depth it.levels.items) (take it.depth (set it.point.items k (to_z w128 (of_z w128 range.low))))
        ++ remaining it.levels.items (set it.point.items k (to_z w128 (of_z w128 range.low)))
        (set it.ranges.items k (record { low = to_z w128 (of_z w128 (to_z w128 (of_z w128 range.low) +ℤ pos 1)); high = to_z w128 (of_z w128 range.high) })) it.depth
    left =
        let G : ℕ → ℤ → Range → Type 0 = λ n l r. remaining it.levels.items it.point.items it.ranges.items n
        ≡ walk (drop n it.levels.items) (take n (set it.point.items k l)) ++ remaining it.levels.items (set it.point.items k l) (set it.ranges.items k r) n in
        let base : G (suc k) range.low (record { low = range.low +ℤ pos 1; high = range.high }) =
        remaining-taken it.levels.items it.point.items it.ranges.items k range.low range.high (omega (arith, state.within, state.places)) room (sym is) order in
        subst (λ r. G it.depth (to_z w128 (of_z w128 range.low)) r) (sym later_is)
        (subst (λ l. G it.depth l (record { low = range.low +ℤ pos 1; high = range.high })) (sym low_is)
        (subst (λ n. G n range.low (record { low = range.low +ℤ pos 1; high = range.high })) (sym (innermost ∙ add-one k)) base))

    pub effort :
        work it.levels.items it.point.items it.ranges.items it.depth
        ≡ 1 + steps (drop it.depth it.levels.items) (take it.depth (set it.point.items k (to_z w128 (of_z w128 range.low))))
        + work it.levels.items (set it.point.items k (to_z w128 (of_z w128 range.low)))
        (set it.ranges.items k (record { low = to_z w128 (of_z w128 (to_z w128 (of_z w128 range.low) +ℤ pos 1)); high = to_z w128 (of_z w128 range.high) })) it.depth
    effort =
        let G : ℕ → ℤ → Range → Type 0 = λ n l r. work it.levels.items it.point.items it.ranges.items n
        ≡ 1 + steps (drop n it.levels.items) (take n (set it.point.items k l)) + work it.levels.items (set it.point.items k l) (set it.ranges.items k r) n in
        let base : G (suc k) range.low (record { low = range.low +ℤ pos 1; high = range.high }) =
        let taken = work-taken it.levels.items it.point.items it.ranges.items k range.low range.high (omega (arith, state.within, state.places)) room (sym is) order in omega (arith, taken) in
        subst (λ r. G it.depth (to_z w128 (of_z w128 range.low)) r) (sym later_is)
        (subst (λ l. G it.depth l (record { low = range.low +ℤ pos 1; high = range.high })) (sym low_is)
        (subst (λ n. G n range.low (record { low = range.low +ℤ pos 1; high = range.high })) (sym (innermost ∙ add-one k)) base))

pub returns-clause-state : goal.returns-clause-state
returns-clause-state c =
    let it = c.args.self.now in
    let r = c.index.result.now in
    let fits : FitsSigned w128 r.high = search rules in
    let L = to_z w128 (of_z w128 r.low) in
    let later = later_has it c.args.level r c.requires.state c.requires.innermost c.requires.some c.index.ensures fits in
    let small = low_small it c.args.level r c.requires.state c.requires.innermost c.requires.some c.index.ensures in
    record {
      levels = c.requires.state.levels;
      narrow = c.requires.state.narrow;
      places = length-set it.point.items c.args.level L ∙ c.requires.state.places;
      ranges = length-set it.ranges.items c.args.level _ ∙ c.requires.state.ranges;
      within = c.requires.state.within;
      coordinates = All-set IsCoordinate it.point.items c.args.level L (subst IsCoordinate (sym (low_is it c.args.level r c.requires.state c.requires.innermost c.requires.some c.index.ensures)) small) c.requires.state.coordinates;
      bounded = All-set HasCoordinates it.ranges.items c.args.level _ later c.requires.state.bounded;
      idle = c.requires.state.idle;
    }

pub returns-clause-left : goal.returns-clause-left
returns-clause-left c =
    let fits : FitsSigned w128 c.index.result.now.high = search rules in
    left c.args.self.now c.args.level c.index.result.now c.requires.state c.requires.innermost c.requires.some c.index.ensures fits

pub returns-clause-work : goal.returns-clause-work
returns-clause-work c =
    let fits : FitsSigned w128 c.index.result.now.high = search rules in
    effort c.args.self.now c.args.level c.index.result.now c.requires.state c.requires.innermost c.requires.some c.index.ensures fits
