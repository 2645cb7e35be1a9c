use Rattle.std.proofs.Math.Seq.{take-append_seam}
use Rattle.std.proofs.Common.{length-append, rules, ◌≡◌, ◌<◌, ◌++◌, length, take, sym, ap, subst, ◌∙◌, arith}
use Rattle.std.specs.Prelude.{slice_index_or, Contains, IfSome, MatchOption, vec_len}
use Rattle.az_lin.specs.Affine.{HoldsSome}
use Rattle.value_walk.specs.Inner.Codes.{term}
use Rattle.value_walk.specs.declared.code.Code.TheVariants.{Cases}
use Rattle.value_walk.specs.declared.code.Code.{Code}
use Rattle.az_ast.specs.Nodes.{nodes}
use Rattle.value_walk.specs.Boxes.{IsBox}
use Rattle.value_walk.specs.Inner.Ready.{IsReadyAt, Gives}
use Rattle.value_walk.proofs.Steps.{IsFolded, branch-smaller, body-smaller, access-gives, body-ready, body-narrow, body-range, fold-gives, fold-step, branch-ready, branch-gives, over_ok}
use Rattle.value_walk.proofs.reader.Reader.+value_of.Goals as goal

pub returns-in-Ok-clause-value : goal.returns-in-Ok-clause-value
returns-in-Ok-clause-value t c =
    access-gives c.args.self.now.scene.now c.args.self.now.slot c.args.z.now c.args.e.now c.in-Access.x c.in-Access.f c.apply.new.out c.in-Ok.found c.in-Access.is c.apply.ensures c.requires.ready c.in-Ok.ensures.value

pub value_of-requires-then-holds : goal.value_of-requires-then-holds
value_of-requires-then-holds t c =
    let branch = c.branch-item.result in
    let held : HoldsSome branch.domain c.args.z.now = search rules in
    let ready = branch-ready c.args.self.now.scene.now c.args.self.now.slot c.args.z.now c.args.e.now c.as_slice-branch-items.result.now c.branches.branch-index branch (omega arith) c.branch-item.is c.branches.invariant.0 held in
    let smaller = branch-smaller c.args.e.now c.as_slice-branch-items.result.now c.branches.branch-index branch (c.in-Cases.is ∙ ap Cases (sym c.as_slice-branch-items.ensures)) (omega arith) c.branch-item.is in
    (omega (arith, c.decreases, smaller), (ready, (c.requires.narrow, (c.requires.range, (c.requires.states, c.branches.invariant.1)))))

pub returns-then-holds-clause-value : goal.returns-then-holds-clause-value
returns-then-holds-clause-value t c =
    let branch = c.branch-item.result in
    let held : HoldsSome branch.domain c.args.z.now = search rules in
    over_ok (Gives c.args.self.now.scene.now (term branch.body) c.args.z.now) (Gives c.args.self.now.scene.now (term c.args.e.now) c.args.z.now) c.value_of-then-holds.result
    (branch-gives c.args.self.now.scene.now c.args.self.now.slot c.args.z.now c.args.e.now c.as_slice-branch-items.result.now c.branches.branch-index branch (omega arith) c.branch-item.is c.branches.invariant.0 held)
    c.value_of-then-holds.ensures.value

pub value_of-requires-in-points : goal.value_of-requires-in-points
value_of-requires-in-points t c =
    let scene = c.args.self.now.scene.now in
    let z = c.args.z.now in
    let k = c.k-item.result in
    let points = c.in_ok-points-in-Reduce.points in
    let listed : c.as_slice-k-items.result.now ≡ points = c.as_slice-k-items.ensures in
    let box : IsBox c.in-Reduce.domain z points = c.in_ok-points-in-Reduce.ensures.ok in
    let at : slice_index_or points c.points.k-index k ≡ k = subst (λ ps. slice_index_or ps c.points.k-index k ≡ k) listed (sym c.k-item.is) in
    let contains : Contains points k = (c.points.k-index, omega (arith, ap length listed), at) in
    let kept : c.truncate.new.self.items ≡ z = c.truncate.ensures.items ∙ c.points.invariant.0 in
    let added : c.as_slice.result.now ≡ k = c.as_slice.ensures in
    let items : c.extend_from_slice.new.self.items ≡ z ++ k = c.in_ok-extend_from_slice-in-Reduce.ensures.items ∙ (λ t. kept t ++ added t) in
    let same : c.deref.result.now ≡ z ++ k = c.deref.ensures.value ∙ items in
    let body : c.get-in-points.result.now ≡ c.in-Reduce.body = c.get-in-points.ensures in
    let smaller = body-smaller c.args.e.now c.in-Reduce.op c.in-Reduce.extra c.in-Reduce.domain c.in-Reduce.body c.in-Reduce.is in (
      omega (arith, c.decreases, smaller, ap (λ (b : Code). nodes (term b)) body),
      (
        subst (λ b. IsReadyAt scene c.args.self.now.slot (term b) c.deref.result.now) (sym body) (body-ready scene c.args.self.now.slot z c.args.e.now c.in-Reduce.op c.in-Reduce.extra c.in-Reduce.domain c.in-Reduce.body c.in-Reduce.is c.requires.ready points box c.deref.result.now k same contains),
        (
          body-narrow scene c.args.self.now.slot z c.args.e.now c.in-Reduce.op c.in-Reduce.extra c.in-Reduce.domain c.in-Reduce.body c.in-Reduce.is c.requires.ready points box c.deref.result.now k same contains,
          (
            body-range scene c.args.self.now.slot z c.args.e.now c.in-Reduce.op c.in-Reduce.extra c.in-Reduce.domain c.in-Reduce.body c.in-Reduce.is c.requires.ready points box c.deref.result.now k same c.requires.range contains,
            (c.requires.states, c.points.invariant.2),
          ),
        ),
      ),
    )

pub points-preserved : goal.points-preserved
points-preserved t c =
    let scene = c.args.self.now.scene.now in
    let z = c.args.z.now in
    let k = c.k-item.result in
    let kept : c.truncate.new.self.items ≡ z = c.truncate.ensures.items ∙ c.points.invariant.0 in
    let added : c.as_slice.result.now ≡ k = c.as_slice.ensures in
    let items : c.extend_from_slice.new.self.items ≡ z ++ k = c.in_ok-extend_from_slice-in-Reduce.ensures.items ∙ (λ t. kept t ++ added t) in
    let same : c.deref.result.now ≡ z ++ k = c.deref.ensures.value ∙ items in
    let body : c.get-in-points.result.now ≡ c.in-Reduce.body = c.get-in-points.ensures in
    let given : IfSome c.in_ok-value-in-Reduce.value (Gives scene (term c.in-Reduce.body) c.deref.result.now)
    = subst (λ b. IfSome c.in_ok-value-in-Reduce.value (Gives scene (term b) c.deref.result.now)) body c.in_ok-value-in-Reduce.ensures.value in (
      ap (take (length z)) items ∙ take-append_seam z k,
      omega (arith, ap length items, length-append z k),
      c.in_ok-value-in-Reduce.ensures.pending,
      omega (arith, c.points.invariant.3, c.in_ok-value-in-Reduce.ensures.more),
      fold-step scene c.args.self.now.slot z c.in-Reduce.op c.in-Reduce.body c.as_slice-k-items.result.now c.points.k-index _ _ k c.deref.result.now c.points.total c.in_ok-value-in-Reduce.value c.combined-total.result
          (omega arith) c.k-item.is same c.in_ok-value-in-Reduce.ensures.more c.points.invariant.4 given c.in_ok-value-in-Reduce.ensures.none c.combined-total.ensures,
    )

pub returns-after-points-clause-value : goal.returns-after-points-clause-value
returns-after-points-clause-value t c =
    let scene = c.args.self.now.scene.now in
    let z = c.args.z.now in
    let points = c.in_ok-points-in-Reduce.points in
    let listed : c.as_slice-k-items.result.now ≡ points = c.as_slice-k-items.ensures in
    let box : IsBox c.in-Reduce.domain z points = c.in_ok-points-in-Reduce.ensures.ok in
    fold-gives scene c.args.self.now.slot z c.args.e.now c.in-Reduce.op c.in-Reduce.extra c.in-Reduce.domain c.in-Reduce.body c.in-Reduce.is c.requires.ready points box c.points.total (vec_len c.points.reads) c.points.k-index (omega (arith, ap length listed))
    (subst (λ ps. MatchOption c.points.total (0 < vec_len c.points.reads) (IsFolded scene c.in-Reduce.op c.in-Reduce.body z (take c.points.k-index ps))) listed c.points.invariant.4)
