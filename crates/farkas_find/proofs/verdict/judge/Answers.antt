use Rattle.std.proofs.Common.{◌≤◌, arith, length}
use Rattle.farkas_find.specs.declared.trail.Ended.TheVariants.{Refuted, Left}
use Rattle.farkas_find.proofs.Numbering.{length-numbered_from}
use Rattle.farkas_find.proofs.Pruning.{names_before}
use Rattle.farkas_find.proofs.Decided.{rows_have_width, judged, refuted_in, refutes, opens}
use Rattle.farkas_find.proofs.verdict.judge.Goals as goal

pub run_stages-requires-clause-widths : goal.run_stages-requires-clause-widths
run_stages-requires-clause-widths c =
    rows_have_width c.width-width.result c.args.system.now.width c.rows-given.result.now c.in_ok-rows.rows.items c.width-width.ensures c.in_ok-rows.ensures.answer.1 c.rows-given.ensures.widths

pub overflow_cast-given : goal.overflow_cast-given
overflow_cast-given c =
    let few : length c.rows-given.result.now ≤ 20000 = omega (arith, c.in_ok-rows.ensures.answer.0, length-numbered_from 0 c.rows-given.result.now) in
    omega (arith, few)

pub derivation_of-requires-clause-target : goal.derivation_of-requires-clause-target
derivation_of-requires-clause-target c =
    let all = judged c.args.system.now c.width-width.result c.rows-given.result.now c.in_ok-rows.rows.items c.in_ok-finished.finished (Refuted c.in-Refuted.number)
    c.width-width.ensures c.requires.narrow c.rows-given.ensures.value c.rows-given.ensures.widths c.in_ok-rows.ensures.range c.in_ok-rows.ensures.answer c.in_ok-finished.ensures c.in-Refuted.is in
    let is = refuted_in c.args.system.now c.in-Refuted.number c.in_ok-finished.finished.steps c.in_ok-finished.finished.trail all in
    rw (c.rows-given.ensures.value, c.as_slice-steps.ensures) is.inside

pub derivation_of-requires-clause-few : goal.derivation_of-requires-clause-few
derivation_of-requires-clause-few c =
    let all = judged c.args.system.now c.width-width.result c.rows-given.result.now c.in_ok-rows.rows.items c.in_ok-finished.finished (Refuted c.in-Refuted.number)
    c.width-width.ensures c.requires.narrow c.rows-given.ensures.value c.rows-given.ensures.widths c.in_ok-rows.ensures.range c.in_ok-rows.ensures.answer c.in_ok-finished.ensures c.in-Refuted.is in
    rw (c.rows-given.ensures.value, c.as_slice-steps.ensures) all.few

pub derivation_of-requires-clause-order : goal.derivation_of-requires-clause-order
derivation_of-requires-clause-order c =
    let all = judged c.args.system.now c.width-width.result c.rows-given.result.now c.in_ok-rows.rows.items c.in_ok-finished.finished (Refuted c.in-Refuted.number)
    c.width-width.ensures c.requires.narrow c.rows-given.ensures.value c.rows-given.ensures.widths c.in_ok-rows.ensures.range c.in_ok-rows.ensures.answer c.in_ok-finished.ensures c.in-Refuted.is in
    let is = refuted_in c.args.system.now c.in-Refuted.number c.in_ok-finished.finished.steps c.in_ok-finished.finished.trail all in
    rw (c.rows-given.ensures.value, c.as_slice-steps.ensures) (names_before c.args.system.now.rows c.in_ok-finished.finished.steps is.good)

pub returns-in-Refuted-clause-answer : goal.returns-in-Refuted-clause-answer
returns-in-Refuted-clause-answer c =
    let all = judged c.args.system.now c.width-width.result c.rows-given.result.now c.in_ok-rows.rows.items c.in_ok-finished.finished (Refuted c.in-Refuted.number)
    c.width-width.ensures c.requires.narrow c.rows-given.ensures.value c.rows-given.ensures.widths c.in_ok-rows.ensures.range c.in_ok-rows.ensures.answer c.in_ok-finished.ensures c.in-Refuted.is in
    refutes c.args.system.now c.in-Refuted.number c.in_ok-finished.finished.steps c.in_ok-finished.finished.trail c.rows-given.result.now c.as_slice-steps.result.now
    c.in_ok-derivation_of-in-Refuted.field-0.steps all c.rows-given.ensures.value c.as_slice-steps.ensures c.in_ok-derivation_of-in-Refuted.ensures.value

pub point-requires-clause-trail : goal.point-requires-clause-trail
point-requires-clause-trail c =
    let all = judged c.args.system.now c.width-width.result c.rows-given.result.now c.in_ok-rows.rows.items c.in_ok-finished.finished (Left c.in-Left.field-0)
    c.width-width.ensures c.requires.narrow c.rows-given.ensures.value c.rows-given.ensures.widths c.in_ok-rows.ensures.range c.in_ok-rows.ensures.answer c.in_ok-finished.ensures c.in-Left.is in
    rw (c.width-width.ensures, c.as_slice.ensures) all.inside

pub overflow_cast-result : goal.overflow_cast-result
overflow_cast-result c =
    let all = judged c.args.system.now c.width-width.result c.rows-given.result.now c.in_ok-rows.rows.items c.in_ok-finished.finished (Left c.in-Left.field-0)
    c.width-width.ensures c.requires.narrow c.rows-given.ensures.value c.rows-given.ensures.widths c.in_ok-rows.ensures.range c.in_ok-rows.ensures.answer c.in_ok-finished.ensures c.in-Left.is in
    omega (arith, all.short, c.len.ensures)

pub returns-in-Some-clause-answer : goal.returns-in-Some-clause-answer
returns-in-Some-clause-answer c =
    let all = judged c.args.system.now c.width-width.result c.rows-given.result.now c.in_ok-rows.rows.items c.in_ok-finished.finished (Left c.in-Left.field-0)
    c.width-width.ensures c.requires.narrow c.rows-given.ensures.value c.rows-given.ensures.widths c.in_ok-rows.ensures.range c.in_ok-rows.ensures.answer c.in_ok-finished.ensures c.in-Left.is in
    let found = rw c.in-Some.is at c.in_ok-point-in-Left.ensures.exact in
    opens c.args.system.now c.in-Left.field-0 c.in_ok-finished.finished.steps c.in_ok-finished.finished.trail c.width-width.result c.rows-given.result.now c.as_slice.result.now
    c.in-Some.point all c.width-width.ensures c.rows-given.ensures.value c.as_slice.ensures found
