use Rattle.std.proofs.Common.{◌≡◌, ◌∷◌, [], ◌++◌, length, length-append, Some, refl, sym, ap, subst, arith}
use Rattle.std.specs.Prelude.{slice_get}
use Rattle.std.proofs.lemmas.Option.{slice_get_read}
use Rattle.value_walk.specs.Points.{AreCovered}
use Rattle.value_walk.proofs.Evaluations.{covered-more, covered-all, unrefused-more}
use Rattle.value_walk.proofs.points.listed.Goals as goal

pub variables-preserved : goal.variables-preserved
variables-preserved c =
    let p = c.args.program.now in
    let v = c.variable-item.result in
    let i = c.variables.variable-index in
    let list = c.in_ok-own_points.field-0 in
    let variables = c.variables-variables.result.now in
    let here : slice_get p.variables i ≡ Some v = subst (λ vs. slice_get vs i ≡ Some v) c.variables-variables.ensures.value (slice_get_read variables (length variables) i v refl (omega arith) c.variable-item.is) in
    let pushed : c.push.new.self ≡ c.variables.points ++ list ∷ [] = c.in_ok-push.ensures.ok in (
      omega (arith, ap length pushed, length-append c.variables.points (list ∷ []), c.variables.invariant.0),
      λ x l. subst (λ ps. AreCovered p c.args.params.now ps x) (sym pushed)
          (covered-more p c.args.params.now c.requires.count c.variables.points i v list c.variables.invariant.0 here c.in_ok-own_points.ensures.ok c.variables.invariant.1 x l),
      unrefused-more p c.args.params.now i v here c.in_ok-own_points.ensures.only c.variables.invariant.2,
    )

pub returns-clause-ok : goal.returns-clause-ok
returns-clause-ok c =
    let p = c.args.program.now in
    let same = ap length c.variables-variables.ensures.value in
    covered-all p c.args.params.now c.requires.count c.variables.points (omega (arith, same, c.variables.invariant.0))
    (λ x l. c.variables.invariant.1 x (omega (arith, c.variables.invariant.0)))

pub returns-clause-only : goal.returns-clause-only
returns-clause-only c = λ x l. c.variables.invariant.2 x (let same = ap length c.variables-variables.ensures.value in omega (arith, same, l, c.variables-test.false))
