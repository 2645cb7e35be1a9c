use Rattle.std.proofs.Common.{◌≡◌, ◌++◌, List, Some, ap, sym, subst, ◌∙◌}
use Rattle.std.specs.Prelude.{ℤ, IfOk, IfSome, MatchOption, slice_get}
use Rattle.az_ast.specs.Meaning.{body_of}
use Rattle.value_walk.specs.Inner.Codes.{term, IsCodeAt}
use Rattle.value_walk.specs.Inner.Ready.{Gives, MeansIn, IsReadyAt}
use Rattle.value_walk.specs.Inner.Slots.{point_of}
use Rattle.value_walk.proofs.Steps.{over_ok, code-has, code-gives}
use Rattle.value_walk.proofs.reader.Reader.value.Goals as goal

pub returns-clause-value : goal.returns-clause-value
returns-clause-value c =
    let scene = c.args.self.now.scene.now in
    let slot = c.args.self.now.slot in
    let z = scene.params.now ++ point_of scene.points.now slot in
    let ready = c.requires.ready in
    let body = c.in-Some.body.now in
    let found : slice_get scene.bodies.now slot.variable ≡ Some body = sym c.in-Some.ensures in
    let code : IsCodeAt scene.program.now slot.variable body = subst (λ o. MatchOption o ⊥ (IsCodeAt scene.program.now slot.variable)) found ready.code in
    let first : c.extend_from_slice.new.self.items ≡ scene.params.now = c.in_ok-extend_from_slice.ensures.ok ∙ ap (λ (xs : List ℤ). xs ++ scene.params.now) c.new-z.ensures.items in
    let point : c.as_slice.result.now ≡ z = c.as_slice.ensures ∙ (c.in_ok-extend_from_slice-2.ensures.ok ∙ (λ t. first t ++ c.point.ensures t)) in
    over_ok (Gives scene (term body) z) (MeansIn scene slot.variable (point_of scene.points.now slot)) c.value_of.result
    (λ v g. ready.means v (code-gives (body_of scene.program.now.equations slot.variable) body (λ b. IsReadyAt scene slot b z) (λ b. Gives scene b z v) code ready.body g))
    (subst (λ q. IfOk c.value_of.result (λ f. IfSome f (Gives scene (term body) q))) point c.value_of.ensures.value)
