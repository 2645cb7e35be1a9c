use Rattle.std.proofs.Common.{rules, ◌≡◌, length, ℕ, suc, ◌-◌, slice_index_or, slice_set, get_or, w64, ℤ, pos, FitsSigned, to_z, of_z, refl, sym, ap, subst, ◌∙◌, arith}
use Rattle.std.proofs.lemmas.Int.{to_z-of_z}
use Rattle.az_ast.specs.Operators.{applied}
use Rattle.execution.specs.Bodies.{moved}
use Rattle.execution.specs.declared.step.Step.TheVariants.{Constant, Loaded, Binary}
use Rattle.az_ast.specs.declared.op.Op.TheVariants.{Sub}
use Rattle.plan_steps.specs.Inner.Machines.{machine_at, CanMove, moved_on}
use Rattle.plan_steps.proofs.Machines.{constant-moves, load-moves, negation-moves, binary-moves}
use Rattle.plan_steps.proofs.machine.Cursor.moved.Goals as goal

pub returns-in-Constant-clause-machine : goal.returns-in-Constant-clause-machine
returns-in-Constant-clause-machine c =
    let can = subst (λ s. CanMove s c.args.self (length c.args.constants.now) (length c.args.loaded.now) (length c.args.stack.now)) c.in-Constant.is c.requires in
    let v : ℤ = slice_index_or c.args.constants.now c.args.self.next (pos 0) in
    let fits : FitsSigned w64 v = search rules in
    let after = slice_set c.args.stack.now c.args.self.height (to_z w64 (of_z w64 v)) in
    subst (λ s. machine_at (moved_on Constant c.args.self) c.args.constants.now c.args.loaded.now after ≡ moved s (machine_at c.args.self c.args.constants.now c.args.loaded.now c.args.stack.now)) (sym c.in-Constant.is)
    (constant-moves c.args.constants.now c.args.loaded.now c.args.stack.now after c.args.self (to_z w64 (of_z w64 v)) can.1 (to_z-of_z w64 v fits) refl)

pub returns-in-Loaded-clause-machine : goal.returns-in-Loaded-clause-machine
returns-in-Loaded-clause-machine c =
    let can = subst (λ s. CanMove s c.args.self (length c.args.constants.now) (length c.args.loaded.now) (length c.args.stack.now)) c.in-Loaded.is c.requires in
    let v : ℤ = slice_index_or c.args.loaded.now c.args.self.taken (pos 0) in
    let fits : FitsSigned w64 v = search rules in
    let after = slice_set c.args.stack.now c.args.self.height (to_z w64 (of_z w64 v)) in
    subst (λ s. machine_at (moved_on Loaded c.args.self) c.args.constants.now c.args.loaded.now after ≡ moved s (machine_at c.args.self c.args.constants.now c.args.loaded.now c.args.stack.now)) (sym c.in-Loaded.is)
    (load-moves c.args.constants.now c.args.loaded.now c.args.stack.now after c.args.self (to_z w64 (of_z w64 v)) can.1 (to_z-of_z w64 v fits) refl)

pub returns-in-Negated-clause-machine : goal.returns-in-Negated-clause-machine
returns-in-Negated-clause-machine c =
    let can = subst (λ s. CanMove s c.args.self (length c.args.constants.now) (length c.args.loaded.now) (length c.args.stack.now)) c.in-Negated.is c.requires in
    let v : ℤ = c.apply_op.result in
    let fits : FitsSigned w64 v = search rules in
    let x : ℤ = slice_index_or c.args.stack.now (c.args.self.height - 1) (pos 0) in
    let held : FitsSigned w64 x = search rules in
    let after = slice_set c.args.stack.now (c.args.self.height - 1) (to_z w64 (of_z w64 v)) in
    subst (λ s. machine_at c.args.self c.args.constants.now c.args.loaded.now after ≡ moved s (machine_at c.args.self c.args.constants.now c.args.loaded.now c.args.stack.now)) (sym c.in-Negated.is)
    (negation-moves c.args.constants.now c.args.loaded.now c.args.stack.now after c.args.self (to_z w64 (of_z w64 v)) (c.args.self.height - 1) (omega (arith, can.0)) (omega (arith, can.0, can.1))
    (to_z-of_z w64 v fits ∙ (c.apply_op.ensures ∙ ap (applied Sub (pos 0)) (to_z-of_z w64 x held))) refl)

pub returns-in-Binary-clause-machine : goal.returns-in-Binary-clause-machine
returns-in-Binary-clause-machine c =
    let op = c.in-Binary.op in
    let can = subst (λ s. CanMove s c.args.self (length c.args.constants.now) (length c.args.loaded.now) (length c.args.stack.now)) c.in-Binary.is c.requires in
    let v : ℤ = c.apply_op-in-Binary.result in
    let fits : FitsSigned w64 v = search rules in
    let h : ℕ = c.args.self.height - 2 in
    let x : ℤ = slice_index_or c.args.stack.now (c.args.self.height - 2) (pos 0) in
    let held : FitsSigned w64 x = search rules in
    let y : ℤ = slice_index_or c.args.stack.now (c.args.self.height - 1) (pos 0) in
    let kept : FitsSigned w64 y = search rules in
    let after = slice_set c.args.stack.now h (to_z w64 (of_z w64 v)) in
    let upper : c.args.self.height - 1 ≡ suc h = omega (arith, can.0) in
    subst (λ s. machine_at (moved_on (Binary op) c.args.self) c.args.constants.now c.args.loaded.now after ≡ moved s (machine_at c.args.self c.args.constants.now c.args.loaded.now c.args.stack.now)) (sym c.in-Binary.is)
    (binary-moves c.args.constants.now c.args.loaded.now c.args.stack.now after c.args.self (to_z w64 (of_z w64 v)) op h (omega (arith, can.0)) (omega (arith, can.0, can.1))
    (to_z-of_z w64 v fits ∙ (c.apply_op-in-Binary.ensures ∙ ((λ i. applied op (to_z-of_z w64 x held i) (to_z-of_z w64 y kept i)) ∙ ap (λ n. applied op (get_or c.args.stack.now h (pos 0)) (get_or c.args.stack.now n (pos 0))) upper))) refl)
