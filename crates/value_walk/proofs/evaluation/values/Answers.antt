use Rattle.value_walk.specs.Inner.Codes.{AreCodes}
use Rattle.value_walk.specs.declared.code.Code.{Code}
use Rattle.std.proofs.Common.{List, ◌≡◌, ℕ, ◌<◌, [], length, sym, subst}
use Rattle.std.specs.Prelude.{slice_index_or}
use Rattle.az_lin.specs.Affine.{HoldsSome}
use Rattle.az_ast.specs.Meaning.{Means}
use Rattle.az_ast.specs.System.{System}
use Rattle.value_walk.specs.Inner.Slots.{state_of, IsKnown, IsMeant}
use Rattle.value_walk.specs.Points.{ArePoints, points_of}
use Rattle.value_walk.specs.Meanings.{HaveInputs}
use Rattle.value_walk.specs.declared.scene.Scene.{Scene}
use Rattle.value_walk.specs.declared.slot.Slot.{Slot}
use Rattle.value_walk.proofs.Readiness.{slot-ready}
use Rattle.value_walk.proofs.evaluation.values.Goals as goal

pub settled-requires-clause-ready : goal.settled-requires-clause-ready
settled-requires-clause-ready c =
    let p = c.program-program.result.now in
    let params = c.args.params.now in
    let value : p ≡ c.args.checked.now = c.program-program.ensures.value in
    let scene : Scene = record { program = c.program-program.result; params = c.args.params; inputs = c.args.inputs; points = c.as_slice-listed.result; bodies = c.as_slice-codes.result; grids = c.as_slice-guesses.result } in
    let points : ArePoints p params c.as_slice-listed.result.now = subst (λ ps. ArePoints p params ps) (sym c.as_slice-listed.ensures) (subst (λ (q : System). ArePoints q params c.args.points) (sym value) c.requires.points) in
    let inputs : HaveInputs p c.args.inputs.now params = subst (λ q. HaveInputs q c.args.inputs.now params) (sym value) c.requires.inputs in
    let long : length params ≡ length p.params = subst (λ (q : System). length params ≡ length q.params) (sym value) c.requires.count in
    let inside : HoldsSome p.pdom params = subst (λ (q : System). HoldsSome q.pdom params) (sym value) c.requires.inside in
    let codes : AreCodes p c.as_slice-codes.result.now = subst (λ (cs : List Code). AreCodes p cs) (sym c.as_slice-codes.ensures) c.in_ok-bodies.ensures in
    λ slot h. slot-ready scene c.variables-variables.ensures.rules points inputs long c.program-program.ensures.certified inside codes slot h

pub tables-requires-clause-settled : goal.tables-requires-clause-settled
tables-requires-clause-settled c =
    let p = c.program-program.result.now in
    let means = λ (x : ℕ). Means p c.args.inputs.now c.args.params.now x in
    let listed = c.as_slice-listed.ensures in
    let states : c.deref.result.now ≡ c.in_ok-states.states.items = c.deref.ensures.value in
    λ x place h.
    let slot : Slot = record { variable = x; place = place } in
    let within : place < length (points_of c.as_slice-listed.result.now x) = subst (λ ps. place < length (points_of ps x)) (sym listed) h in
    let known = c.in_ok-states.ensures.known slot within in
    let meant = c.in_ok-states.ensures.states.meant slot within in (
      subst (λ s. IsKnown (state_of s slot)) (sym states) known,
      subst (λ ps. IsMeant (means x (slice_index_or (points_of ps x) place [])) (state_of c.deref.result.now slot)) listed
          (subst (λ s. IsMeant (means x (slice_index_or (points_of c.as_slice-listed.result.now x) place [])) (state_of s slot)) (sym states) meant),
    )
