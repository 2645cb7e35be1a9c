use Rattle.std.proofs.Common.{rules, ◌-◌, ◌<◌, slice_index_or, w64, ℤ, pos, FitsSigned, ◌∙◌}
use Rattle.std.proofs.lemmas.Int.{to_z-of_z}
use Rattle.plan_steps.proofs.Machines.{loop-under, end-under}
use Rattle.plan_steps.proofs.machine.carried_out.Goals as goal

pub steps-preserved : goal.steps-preserved
steps-preserved c =
    loop-under c.args.steps.now c.steps.step-index _ c.args.constants.now c.args.loaded.now c.args.stack.now c.steps.stack c.moved-cursor.new.stack c.steps.cursor c.moved-cursor.result c.steps-test.true c.steps.invariant
    c.moved-cursor.ensures.cursor c.moved-cursor.ensures.machine c.moved-cursor.ensures.room

pub returns : goal.returns
returns c =
    let v : ℤ = slice_index_or c.steps.stack (c.steps.cursor.height - 1) (pos 0) in
    let fits : FitsSigned w64 v = search rules in
    let high : 0 < c.steps.cursor.height = search rules in
    to_z-of_z w64 v fits
    ∙ end-under c.args.steps.now c.steps.step-index c.args.constants.now c.args.loaded.now c.args.stack.now c.steps.stack c.steps.cursor c.steps-test.false high c.steps.invariant
