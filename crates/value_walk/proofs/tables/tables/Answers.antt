use Rattle.std.proofs.Common.{◌≡◌, ℕ, ◌<◌, length, refl, sym, ap, subst, ◌∙◌, arith}
use Rattle.az_ast.specs.Meaning.{Means}
use Rattle.value_walk.specs.Inner.Slots.{IsSettledAt, states_of}
use Rattle.value_walk.specs.Points.{points_of}
use Rattle.value_walk.proofs.Evaluations.{empty-beyond, empty-none, last-points}
use Rattle.value_walk.proofs.tables.tables.Goals as goal

pub loop-list-init : goal.loop-list-init
loop-list-init c = (
  omega arith,
  λ x l. refl,
  λ x h. empty-beyond c.args.program.now c.args.inputs.now c.args.params.now c.new-values.result x c.new-values.ensures (omega (arith, c.requires.count)),
  λ x h. empty-none c.new-values.result x c.new-values.ensures,
)

pub put-requires-clause-length : goal.put-requires-clause-length
put-requires-clause-length c =
    let n : ℕ = length c.pop.new.self in
    let states = c.args.states.now in
    let list : c.in-Some.list ≡ points_of c.args.points n = last-points c.args.points c.loop-list.points c.pop.new.self c.in-Some.list c.in-Some.ensures c.loop-list.invariant.1 in
    ap length list ∙ (sym (c.requires.aligned n) ∙ ap length (ap (states_of states) (sym c.len-x.ensures) ∙ sym c.states_of.ensures))

pub put-requires-clause-settled : goal.put-requires-clause-settled
put-requires-clause-settled c =
    let n : ℕ = length c.pop.new.self in
    let states = c.args.states.now in
    let means = λ (x : ℕ). Means c.args.program.now c.args.inputs.now c.args.params.now x in
    let list : c.in-Some.list ≡ points_of c.args.points n = last-points c.args.points c.loop-list.points c.pop.new.self c.in-Some.list c.in-Some.ensures c.loop-list.invariant.1 in
    λ place h. subst (λ s. IsSettledAt (means c.len-x.result) c.in-Some.list s place) (sym c.states_of.ensures)
    (subst (λ y. IsSettledAt (means y) c.in-Some.list (states_of states y) place) (sym c.len-x.ensures)
    (subst (λ l. IsSettledAt (means n) l (states_of states n) place) (sym list) (c.requires.settled n place (subst (λ l. place < length l) list h))))
