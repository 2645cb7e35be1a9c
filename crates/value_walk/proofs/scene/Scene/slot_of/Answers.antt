use Rattle.std.proofs.Common.{◌≡◌, Some, sym, subst, ◌∙◌}
use Rattle.std.specs.Prelude.{slice_get, Contains}
use Rattle.value_walk.specs.Points.{points_of}
use Rattle.value_walk.proofs.SlotLemmas.{points-read, variable-within, within, found-point}
use Rattle.value_walk.proofs.scene.Scene.slot_of.Goals as goal

pub place_of-place-requires-clause-listed : goal.place_of-place-requires-clause-listed
place_of-place-requires-clause-listed c =
    let same : c.as_slice.result.now ≡ points_of c.args.self.now.points.now c.args.x
    = c.as_slice.ensures ∙ (sym c.index-self-x.is ∙ points-read c.args.self.now.points.now c.args.x c.index-self-x.result (variable-within c.args.self.now.points.now c.args.x c.args.k.now c.requires.listed.listed) c.index-self-x.is) in
    subst (λ l. Contains l c.args.k.now) (sym same) c.requires.listed.listed

pub returns-clause-slot : goal.returns-clause-slot
returns-clause-slot c =
    let same : c.as_slice.result.now ≡ points_of c.args.self.now.points.now c.args.x
    = c.as_slice.ensures ∙ (sym c.index-self-x.is ∙ points-read c.args.self.now.points.now c.args.x c.index-self-x.result (variable-within c.args.self.now.points.now c.args.x c.args.k.now c.requires.listed.listed) c.index-self-x.is) in
    within (points_of c.args.self.now.points.now c.args.x) c.place_of-place.result c.args.k.now (subst (λ l. slice_get l c.place_of-place.result ≡ Some c.args.k.now) same c.place_of-place.ensures)

pub returns-clause-point : goal.returns-clause-point
returns-clause-point c =
    let same : c.as_slice.result.now ≡ points_of c.args.self.now.points.now c.args.x
    = c.as_slice.ensures ∙ (sym c.index-self-x.is ∙ points-read c.args.self.now.points.now c.args.x c.index-self-x.result (variable-within c.args.self.now.points.now c.args.x c.args.k.now c.requires.listed.listed) c.index-self-x.is) in
    found-point (points_of c.args.self.now.points.now c.args.x) c.place_of-place.result c.args.k.now (subst (λ l. slice_get l c.place_of-place.result ≡ Some c.args.k.now) same c.place_of-place.ensures)
