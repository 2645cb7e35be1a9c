use Rattle.std.proofs.Common.{◌+◌, arith}
use Rattle.az_text.proofs.Digits.{digits_value_step}
use Rattle.command_words.proofs.Digits.{small}
use Rattle.command_words.proofs.integer.value_of.Goals as goal

pub overflow_mul-value : goal.overflow_mul-value
overflow_mul-value c =
    let digits = c.args.digits.now in
    let i = c.loop-digit.digit-index in
    let step = digits_value_step digits i c.requires.digits c.loop-digit-test.true in
    let bound = small digits (i + 1) c.requires.digits c.requires.few in
    omega (arith, step, bound)

pub overflow_add-value : goal.overflow_add-value
overflow_add-value c =
    let digits = c.args.digits.now in
    let i = c.loop-digit.digit-index in
    let step = digits_value_step digits i c.requires.digits c.loop-digit-test.true in
    let bound = small digits (i + 1) c.requires.digits c.requires.few in
    omega (arith, step, bound)

pub loop-digit-preserved : goal.loop-digit-preserved
loop-digit-preserved c =
    omega (arith, digits_value_step c.args.digits.now c.loop-digit.digit-index c.requires.digits c.loop-digit-test.true)
