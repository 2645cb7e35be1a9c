use Rattle.std.proofs.Common.{rules, ◌≡◌, ◌<◌, ◌^◌, ℕ, length, ap, sym, subst, arith}
use Rattle.std.specs.Prelude.{Err, Ok}
use Rattle.std.proofs.lemmas.List.FromFn.{length-range_with_len}
use Rattle.equation_meaning.specs.Counts.{VariableCounts}
use Rattle.equation_meaning.specs.Inner.Counting.{EvaluatedOf, ProgramAnswers}
use Rattle.equation_meaning.proofs.Counting.{step-counted, step-fails, parts-counted}
use Rattle.equation_meaning.proofs.Numbers.{program-number}
use Rattle.equation_meaning.proofs.PointSteps.{counts-of-once, number-at, numbers, program-answers}
use Rattle.equation_meaning.proofs.point_count.point_count.Goals as goal

pub returns-in_err-count-clause-answers : goal.returns-in_err-count-clause-answers
returns-in_err-count-clause-answers c =
    let p = c.args.program.now in
    let params = c.args.params.now in
    let x : ℕ = c.variables.x in
    let declared : x < length p.variables = omega (arith, c.variables-test.true, ap length c.variables-variables.ensures.value) in
    let within : x < length (numbers p params) = omega (arith, declared, length-range_with_len 0 (length p.variables)) in
    let handed : c.from_residual.result ≡ Err c.in_err-count.field-0.0 = search rules in
    subst (λ r. ProgramAnswers p params (2 ^ 22) r) (sym handed)
    (program-answers p params (2 ^ 22) (Err c.in_err-count.field-0.0)
    (step-fails (VariableCounts p params) (EvaluatedOf p params) 0 (numbers p params) (2 ^ 22) c.variables.count x x within (number-at p params x declared) c.variables.invariant (counts-of-once p params)
    c.in_err-count.field-0.0 c.in_err-count.ensures))

pub variables-preserved : goal.variables-preserved
variables-preserved c =
    let p = c.args.program.now in
    let params = c.args.params.now in
    let x : ℕ = c.variables.x in
    let declared : x < length p.variables = omega (arith, c.variables-test.true, ap length c.variables-variables.ensures.value) in
    let within : x < length (numbers p params) = omega (arith, declared, length-range_with_len 0 (length p.variables)) in
    step-counted (VariableCounts p params) (EvaluatedOf p params) 0 (numbers p params) (2 ^ 22) c.variables.count x x within (number-at p params x declared) c.variables.invariant c.in_ok-count.field-0 c.in_ok-count.ensures

pub returns-clause-answers : goal.returns-clause-answers
returns-clause-answers c =
    let p = c.args.program.now in
    let params = c.args.params.now in
    program-answers p params (2 ^ 22) (Ok c.variables.count)
    (parts-counted (VariableCounts p params) (EvaluatedOf p params) 0 (numbers p params) (2 ^ 22) c.variables.count c.variables.x
    (omega (arith, c.variables-test.false, ap length c.variables-variables.ensures.value, length-range_with_len 0 (length p.variables))) c.variables.invariant)

pub returns-in_err-count-clause-number : goal.returns-in_err-count-clause-number
returns-in_err-count-clause-number c =
    program-number c.args.program.now c.args.params.now c.variables-variables.ensures.rules c.requires.certified c.requires.count c.requires.inside

pub returns-clause-number : goal.returns-clause-number
returns-clause-number c =
    program-number c.args.program.now c.args.params.now c.variables-variables.ensures.rules c.requires.certified c.requires.count c.requires.inside
