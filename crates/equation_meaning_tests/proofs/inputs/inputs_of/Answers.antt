use Rattle.std.proofs.Common.{◌≡◌, ℕ, Some, length, refl, ap, subst, arith}
use Rattle.std.specs.Prelude.{slice_get}
use Rattle.std.proofs.lemmas.Option.{slice_get_read}
use Rattle.equation_meaning_tests.proofs.InputSteps.{input-more, input-all}
use Rattle.equation_meaning_tests.proofs.inputs.inputs_of.Goals as goal

pub variables-preserved : goal.variables-preserved
variables-preserved c =
    let p = c.args.program.now in
    let x : ℕ = c.variables.x in
    let v = c.index-variables-x.result in
    let variables = c.variables-variables.result.now in
    let declared : slice_get p.variables x ≡ Some v =
    subst (λ vs. slice_get vs x ≡ Some v) c.variables-variables.ensures.value (slice_get_read variables (length variables) x v refl c.variables-test.true c.index-variables-x.is) in
    input-more p c.args.params.now c.requires.count c.variables.inputs c.set.new.self x v c.in_ok-table.table declared c.in-Ok.ensures.ok c.in_ok-table.ensures c.variables.invariant

pub returns : goal.returns
returns c =
    input-all c.args.program.now c.args.params.now c.requires.count c.variables.inputs c.variables.x
    (omega (arith, c.variables-test.false, ap length c.variables-variables.ensures.value)) c.variables.invariant
