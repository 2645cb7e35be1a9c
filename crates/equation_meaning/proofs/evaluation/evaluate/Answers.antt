use Rattle.std.proofs.Common.{◌^◌, refl, sym, subst, inl}
use Rattle.std.specs.Prelude.{Err}
use Rattle.az_ast.specs.System.{System}
use Rattle.value_walk.specs.Boxes.{UnlessMemory}
use Rattle.value_walk.specs.Meanings.{IsRefused}
use Rattle.value_walk.specs.Refusals.{refusal_of}
use Rattle.equation_meaning.specs.Counts.{IsNumberOfPoints, HasNumberOfPoints}
use Rattle.equation_meaning.specs.Evaluation.{IsWithin, HasManyPoints, EvaluationAnswers}
use Rattle.equation_meaning.specs.Inner.Counting.{EvaluatedIn, CountFails}
use Rattle.equation_meaning.proofs.Answering.{refused-answers, counting-refused, within, walked}
use Rattle.equation_meaning.proofs.evaluation.evaluate.Goals as goal

pub returns-in-Ok-point_count : goal.returns-in-Ok-point_count
returns-in-Ok-point_count c =
    let p = c.program-program.result.now in
    let params = c.args.params.now in
    let bounded : IsWithin p params = within p params c.in-Ok-point_count.field-0 c.in-Ok.ensures.only c.in-Ok-point_count.ensures.answers in
    walked c.args.checked.now c.args.inputs.now params c.values.result (subst (λ (q : System). IsWithin q params) c.program-program.ensures.value bounded) c.values.ensures.ok c.values.ensures.cause

pub returns-in-Err-Many : goal.returns-in-Err-Many
returns-in-Err-Many c =
    let p = c.program-program.result.now in
    let params = c.args.params.now in
    let over = subst (λ f. CountFails (IsNumberOfPoints p params) (EvaluatedIn p params) (2 ^ 22) f) c.in-Err-Many.field-0-is c.in-Err-Many.ensures.answers in
    let number : HasNumberOfPoints p params = c.point_count.ensures.number in
    let many : HasManyPoints p params = (number.0, number.1, over number.0 number.1) in
    inl (refl, subst (λ (q : System). HasManyPoints q params) c.program-program.ensures.value many)

pub returns : goal.returns
returns c =
    let p = c.program-program.result.now in
    let params = c.args.params.now in
    let fault = c.in-Err-Scan.fault in
    let refused : UnlessMemory (IsRefused p params) fault =
    counting-refused p params fault (subst (λ f. CountFails (IsNumberOfPoints p params) (EvaluatedIn p params) (2 ^ 22) f) c.in-Err-Scan.field-0-is c.in-Err-Scan.ensures.answers) in
    let answer = refused-answers c.args.checked.now c.args.inputs.now params fault (subst (λ (q : System). UnlessMemory (IsRefused q params) fault) c.program-program.ensures.value refused) in
    subst (λ r. EvaluationAnswers c.args.checked.now c.args.inputs.now params (Err r)) (sym c.of_scan-in-Err-Scan.ensures)
    (subst (λ f. EvaluationAnswers c.args.checked.now c.args.inputs.now params (Err (refusal_of f))) (sym c.in-Err-Scan.fault-is) answer)
