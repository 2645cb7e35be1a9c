use Rattle.std.proofs.Common.{◌≡◌, ◌∙◌, ap, arith, sym, subst, length, take, set, get_or, ◌+◌, ℕ}
use Rattle.std.proofs.lemmas.List.{length-take-le, length-set}
use Rattle.std.proofs.lemmas.List.Elements.{All-set}
use Rattle.loop_scan.specs.declared.level.Level.{Level}
use Rattle.loop_scan.specs.Nest.Levels.{IsLevel, HasCoordinates, range_at}
use Rattle.loop_scan.specs.Nest.Walks.{remaining, work}
use Rattle.loop_scan.proofs.Ranges.{HasCoordinates-range_at}
use Rattle.loop_scan.proofs.WalkSteps.{AreLevels-at, remaining-entered, work-entered}
use Rattle.loop_scan.proofs.walk.Walk.enter.Goals as goal

pub range_at-requires-clause-level : goal.range_at-requires-clause-level
range_at-requires-clause-level c =
    let it = c.args.self.now in
    let is = AreLevels-at 0 it.depth it.levels.items c.index.result.now c.requires.more c.requires.state.levels in
    let as_long : length (take it.depth c.deref.result.now) ≡ it.depth =
    length-take-le it.depth c.deref.result.now (omega (arith, ap length c.deref.ensures.value, c.requires.state.places, c.requires.more)) in
    let P : ℕ → Type 0 = λ n. IsLevel n (get_or it.levels.items it.depth c.index.result.now) in
    let Q : Level → Type 0 = λ level. IsLevel (length (take it.depth c.deref.result.now)) level in
    subst Q (sym c.index.ensures) (subst P (omega (arith, as_long)) is)

pub returns-clause-state : goal.returns-clause-state
returns-clause-state c =
    let it = c.args.self.now in
    let is = AreLevels-at 0 it.depth it.levels.items c.index.result.now c.requires.more c.requires.state.levels in
    let Q : Level → Type 0 = λ level. IsLevel (0 + it.depth) level in
    let level = subst Q (sym c.index.ensures) is in
    let bounded : HasCoordinates c.range_at.result =
    subst HasCoordinates (sym c.range_at.ensures) (HasCoordinates-range_at (0 + it.depth) c.index.result.now (take it.depth c.deref.result.now) level) in
    record {
      levels = c.requires.state.levels;
      narrow = c.requires.state.narrow;
      places = c.requires.state.places;
      ranges = length-set it.ranges.items it.depth c.range_at.result ∙ c.requires.state.ranges;
      within = omega (arith, c.requires.more);
      coordinates = c.requires.state.coordinates;
      bounded = All-set HasCoordinates it.ranges.items it.depth c.range_at.result bounded c.requires.state.bounded;
      idle = λ e. absurd (let f = c.requires.begun in cc);
    }

pub returns-clause-left : goal.returns-clause-left
returns-clause-left c =
    let it = c.args.self.now in
    let level = c.index.result.now in
    let e : c.range_at.result ≡ range_at level (take it.depth it.point.items) =
    c.range_at.ensures ∙ ap (λ p. range_at level (take it.depth p)) c.deref.ensures.value in
    ap (λ r. remaining it.levels.items it.point.items (set it.ranges.items it.depth r) (it.depth + 1)) e
    ∙ remaining-entered it.levels.items it.point.items it.ranges.items it.depth level c.requires.more (omega (arith, c.requires.more, c.requires.state.ranges)) c.index.ensures

pub returns-clause-work : goal.returns-clause-work
returns-clause-work c =
    let it = c.args.self.now in
    let level = c.index.result.now in
    let e : c.range_at.result ≡ range_at level (take it.depth it.point.items) =
    c.range_at.ensures ∙ ap (λ p. range_at level (take it.depth p)) c.deref.ensures.value in
    ap (λ r. work it.levels.items it.point.items (set it.ranges.items it.depth r) (it.depth + 1)) e
    ∙ work-entered it.levels.items it.point.items it.ranges.items it.depth level c.requires.more (omega (arith, c.requires.more, c.requires.state.ranges)) c.index.ensures
