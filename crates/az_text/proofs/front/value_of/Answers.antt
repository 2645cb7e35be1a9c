use Rattle.std.proofs.Common.{◌≡◌, ℕ, ◌+◌, ◌^◌, ◌≤◌, List, None, sym, arith}
use Rattle.std.proofs.lemmas.Bool.{cond-false, le-ltb}
use Rattle.std.specs.Str.Parse.{digits_value}
use Rattle.az_text.specs.Fronts.{value_below}
use Rattle.az_text.proofs.Digits.{digits_value_step, digits_value-take-le}
use Rattle.az_text.proofs.front.value_of.Goals as goal

none_above : (digits : List ℕ) → 2 ^ 127 ≤ digits_value 10 digits → None ≡ value_below (2 ^ 127) digits
none_above digits wide = sym (cond-false _ _ _ (le-ltb _ _ wide))

-- the digits so far give too much, and so do all
pub returns-then-value : goal.returns-then-value
returns-then-value c =
    let digits = c.args.digits.now in
    let i = c.loop-digit.digit-index in
    none_above digits (omega (arith, digits_value_step digits i c.requires c.loop-digit-test.true, digits_value-take-le (i + 1) digits))

pub returns-then-value-gt-MOST : goal.returns-then-value-gt-MOST
returns-then-value-gt-MOST c =
    let digits = c.args.digits.now in
    let i = c.loop-digit.digit-index in
    none_above digits (omega (arith, digits_value_step digits i c.requires c.loop-digit-test.true, digits_value-take-le (i + 1) digits))

pub loop-digit-preserved : goal.loop-digit-preserved
loop-digit-preserved c =
    let step = digits_value_step c.args.digits.now c.loop-digit.digit-index c.requires c.loop-digit-test.true in
    (omega (arith, step), omega arith)
